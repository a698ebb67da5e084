-- `packing::lengths_fit` meets its contract. Assumes nothing.
use borrow.Author.Tests.{eq-eqb, ne_eqb}
use Rattle.packing.specs.Packed.{lengths_fit}
use Rattle.packing.proofs.lengths_fit.Goals as goal

pub returns-then-c-ne0 : goal.returns-then-c-ne0
unfolding lengths_fit
returns-then-c-ne0 c = rw (ne_eqb _ _ c.if-c-ne0.true)

pub returns-then-l-ne0 : goal.returns-then-l-ne0
unfolding lengths_fit
returns-then-l-ne0 c = rw (eq-eqb _ _ c.if-c-ne0.false, ne_eqb _ _ c.if-l-ne0.true)

pub returns : goal.returns
unfolding lengths_fit
returns c = rw (eq-eqb _ _ c.if-c-ne0.false, eq-eqb _ _ c.if-l-ne0.false)

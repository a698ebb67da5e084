-- `joints::across` meets its contract. Assumes nothing.
use borrow.Author.Tests.{eq-eqb, ne_eqb}
use Rattle.joints.specs.between.Joints.{across_of}
use Rattle.joints.proofs.across.Goals as goal

pub returns-then-i-eq0 : goal.returns-then-i-eq0
unfolding across_of
returns-then-i-eq0 c = rw (eq-eqb _ _ c.if-i-eq0.true)

pub returns : goal.returns
unfolding across_of
returns c = rw (ne_eqb _ _ c.if-i-eq0.false)

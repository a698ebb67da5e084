-- `joints::pyramid` meets its contract. Assumes nothing.
use borrow.Author.Tests.{eq-eqb, ne_eqb}
use Rattle.joints.specs.between.Joints.{pyramid_of}
use Rattle.joints.proofs.pyramid.Goals as goal

pub returns-then-k-eq0 : goal.returns-then-k-eq0
unfolding pyramid_of
returns-then-k-eq0 c = rw (eq-eqb _ _ c.if-k-eq0.true) c.least_first.ensures

pub returns-then-k-eq1 : goal.returns-then-k-eq1
unfolding pyramid_of
returns-then-k-eq1 c = rw (ne_eqb _ _ c.if-k-eq0.false, eq-eqb _ _ c.if-k-eq1.true) c.least_first-then-k-eq1.ensures

pub returns : goal.returns
unfolding pyramid_of
returns c = rw (ne_eqb _ _ c.if-k-eq0.false, ne_eqb _ _ c.if-k-eq1.false) c.least_first-2.ensures

-- `joints::least_first` meets its contract. Assumes nothing.
use borrow.Author.Tests.{lt-ltb, le-ltb}
use Rattle.joints.specs.between.Joints.{least_first}
use Rattle.joints.proofs.least_first.Goals as goal

pub returns-then-s-t : goal.returns-then-s-t
unfolding least_first
returns-then-s-t c = rw (← c.lesser_first-s.ensures, ← c.lesser_first-t.ensures, lt-ltb _ _ c.if-s-t.true)

pub returns-else-s-t : goal.returns-else-s-t
unfolding least_first
returns-else-s-t c = rw (← c.lesser_first-s.ensures, ← c.lesser_first-t.ensures, le-ltb _ _ c.if-s-t.false)

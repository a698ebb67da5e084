-- `joints::lesser_first` meets its contract. Assumes nothing.
use borrow.Author.Tests.{lt-ltb, le-ltb}
use Rattle.joints.specs.between.Joints.{lesser_first}
use Rattle.joints.proofs.lesser_first.Goals as goal

pub returns-then-c-a : goal.returns-then-c-a
unfolding lesser_first
returns-then-c-a c = rw (lt-ltb _ _ c.if-c-a.true)

pub returns : goal.returns
unfolding lesser_first
returns c = rw (le-ltb _ _ c.if-c-a.false)

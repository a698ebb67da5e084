-- `failing::is_new` meets its contract. Assumes nothing.
use mathlib.Core.Path.{ap}
use mathlib.Core.Bool.{not}
use borrow.Author.Tests.{lt-ltb, le-ltb}
use lib.ListN.{length-take}
use native.Mathlib.Omega.{arith}
use Rattle.reasons.specs.Reason.{is_new}
use Rattle.failing.proofs.is_new.Goals as goal

pub slice_bounds-is_in-end : goal.slice_bounds-is_in-end
slice_bounds-is_in-end c = simp length-take (omega arith)

pub returns-then-c-i : goal.returns-then-c-i
unfolding is_new
returns-then-c-i c = rw (lt-ltb _ _ c.if-c-i.true) (ap not c.is_in.ensures)

pub returns-else-c-i : goal.returns-else-c-i
unfolding is_new
returns-else-c-i c = rw (le-ltb _ _ c.if-c-i.false)

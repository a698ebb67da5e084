-- `rooms::put_if` meets its contract: the second list is laid behind the first. Assumes nothing.
use mathlib.Core.Path.{refl}
use mathlib.Core.List.{◌++◌}
use native.Mathlib.Omega.{arith}
use Rattle.base.proofs.Lay.{laid_more}
use Rattle.rooms.proofs.Room.{full-content}
use Rattle.rooms.proofs.put_if.Goals as goal

pub returns-then-wanted-clause-content : goal.returns-then-wanted-clause-content
returns-then-wanted-clause-content c = let a = c.args in
    rw c.if-wanted.true (full-content (a.first.now ++ a.second.now) a.room.now (laid_more c.put.ensures _ (omega arith) c.put-then-wanted.ensures refl))

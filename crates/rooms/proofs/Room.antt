-- A room that holds a list, laid at its start. Assumes nothing.
use mathlib.Core.Path.{◌≡◌, ◌∙◌}
use mathlib.Core.List.{List}
use Prim.Native.Nat.{ℕ}
use native.Mathlib.Omega.{arith}
use borrow.Author.Tests.{le-ltb}
use lib.ListN.{length}
use Rattle.base.specs.Laid.{Laid}
use Rattle.base.proofs.Lay.{lay-front}
use Rattle.rooms.specs.between.Rooms.{laid_by}

pub full-content : (xs old : List ℕ) {new : List ℕ} → Laid 0 xs old new → new ≡ laid_by xs old
full-content xs old d = rw (le-ltb (length old) (length xs) (omega (arith, d.room))) (d.content ∙ lay-front xs old)

-- `open_faces::sides_at` meets its contract. Assumes nothing.
use mathlib.Core.Path.{◌≡◌}
use mathlib.Core.Bool.{◌&&◌}
use mathlib.Core.List.{[], ◌∷◌}
use Prim.Native.Nat.{◌/◌, ◌-◌, ◌≤◌}
use lib.ListN.{length}
use Rattle.base.proofs.Loop.{CountUp}
use Rattle.tets_around.specs.Sharing.{has_all}
use Rattle.cells.specs.between.Rows.{owns_by}
use Rattle.open_faces.proofs.sides_at.Given as goal

abbrev pub invariant-loop-i : goal.invariant-loop-i
invariant-loop-i l = (l.t ≡ length l.labels / 4) × ((l.found ≤ l.i) × CountUp (λ e. has_all l.labels (l.u.0 ∷ l.v.0 ∷ l.w.0 ∷ []) e && owns_by l.labels l.quads l.c e) (λ e. e) l.t l.i l.found)

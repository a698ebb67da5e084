-- `tets_around::Index::sharing` meets its contract. Assumes nothing.
use mathlib.Core.List.{[], ◌∷◌}
use Prim.Native.Nat.{◌≤◌}
use lib.ListN.{length, get_or}
use Rattle.base.proofs.Loop.{CountUp}
use Rattle.tets_around.specs.Sharing.{has_all}
use Rattle.tets_around.proofs.reading.Index.sharing.Given as goal

abbrev pub invariant-loop-i : goal.invariant-loop-i
invariant-loop-i l = (l.found ≤ l.i-index) × CountUp (has_all l.self.labels.now (l.a.0 ∷ l.b.0 ∷ l.c.0 ∷ [])) (λ i. get_or l.row i 0) (length l.row) l.i-index l.found

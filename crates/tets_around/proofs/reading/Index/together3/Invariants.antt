-- `tets_around::Index::together3` meets its contract. Assumes nothing.
use mathlib.Core.List.{[], ◌∷◌}
use lib.ListN.{length, get_or}
use Rattle.base.proofs.Loop.{AnyUp}
use Rattle.tets_around.specs.Sharing.{has_all}
use Rattle.tets_around.proofs.reading.Index.together3.Given as goal

abbrev pub invariant-loop-i : goal.invariant-loop-i
invariant-loop-i l = AnyUp (has_all l.self.labels.now (l.u.0 ∷ l.v.0 ∷ l.w.0 ∷ [])) (λ i. get_or l.row i 0) (length l.row) l.i-index

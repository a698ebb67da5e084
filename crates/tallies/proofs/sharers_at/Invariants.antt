-- `tallies::sharers_at` meets its contract. Assumes nothing.
use Rattle.std.proofs.Common.{◌≤◌, ◌/◌, length, [], ◌∷◌}
use Rattle.base.proofs.Loop.{CountUp}
use Rattle.tets_around.specs.Sharing.{has_all}
use Rattle.tallies.proofs.sharers_at.Given as goal

abbrev pub invariant-loop-i : goal.invariant-loop-i
invariant-loop-i l = (l.found ≤ l.i) × CountUp (has_all l.labels (l.u.0 ∷ l.v.0 ∷ l.w.0 ∷ [])) (λ e. e) (length l.labels / 4) l.i l.found

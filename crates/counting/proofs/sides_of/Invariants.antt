-- `counting::sides_of` meets its contract. Assumes nothing.
use mathlib.Core.List.{[], ◌∷◌}
use Prim.Native.Nat.{◌/◌, ◌≤◌}
use lib.ListN.{length}
use Rattle.base.proofs.Loop.{CountUp}
use Rattle.counting.proofs.Sides.{are_set}
use Rattle.counting.proofs.sides_of.Given as goal

abbrev pub invariant-loop-k : goal.invariant-loop-k
invariant-loop-k l = (l.found ≤ l.k) × CountUp (are_set l.has (l.a ∷ l.b ∷ l.d ∷ [])) (λ i. i) (length l.has / 8) l.k l.found

-- `facet_hints::hint_square`: whatever adds the hints of the vertices that are left makes all. Assumes nothing.
use mathlib.Core.List.{List}
use Prim.Native.Nat.{ℕ}
use mathlib.Core.Path.{◌≡◌}
use lib.ListN.{length, drop}
use Rattle.facet_hints.specs.between.Hints.{hint_places, AddsHints, OfSquare}
use Rattle.facet_hints.proofs.hint_square.Given as goal

abbrev pub invariant-loop-i : goal.invariant-loop-i
invariant-loop-i l = (length l.hints ≡ hint_places) × ((m : List ℕ) → AddsHints l.hints m (OfSquare l.u.0 (drop l.i l.vs)) → AddsHints l.initial.hints m (OfSquare l.u.0 l.vs))

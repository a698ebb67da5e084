-- `facet_hints::hint_tet`: whatever adds the hints of the vertices that are left makes all. Assumes nothing.
use mathlib.Core.List.{List}
use Prim.Native.Nat.{ℕ}
use mathlib.Core.Path.{◌≡◌}
use lib.ListN.{length, drop}
use Rattle.facet_hints.specs.between.Hints.{hint_places, AddsHints, OfFour}
use Rattle.facet_hints.proofs.hint_tet.Given as goal

abbrev pub invariant-loop-i : goal.invariant-loop-i
invariant-loop-i l = (length l.hints ≡ hint_places) × ((m : List ℕ) → AddsHints l.hints m (OfFour (drop l.i l.vs)) → AddsHints l.initial.hints m (OfFour l.vs))

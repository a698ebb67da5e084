-- `facet_hints::hint_line`: whatever adds the hints of the vertices that are left makes all. Assumes nothing.
use mathlib.Core.List.{List, [], ◌∷◌}
use Prim.Native.Nat.{ℕ}
use mathlib.Core.Path.{◌≡◌}
use lib.ListN.{length, drop}
use Rattle.facet_hints.specs.between.Hints.{hint_places, AddsHints, Among}
use Rattle.facet_hints.proofs.hint_line.Given as goal

abbrev pub invariant-loop-w : goal.invariant-loop-w
invariant-loop-w l = (length l.hints ≡ hint_places) × ((m : List ℕ) → AddsHints l.hints m (Among (l.u.0 ∷ []) (l.v.0 ∷ []) (drop l.w-index l.ws)) → AddsHints l.initial.hints m (Among (l.u.0 ∷ []) (l.v.0 ∷ []) l.ws))

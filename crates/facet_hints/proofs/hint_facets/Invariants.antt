-- `facet_hints::hint_facets` meets its contract. Assumes nothing.
use Prim.Native.Nat.{◌/◌, ◌≤◌}
use lib.ListN.{length}
use Rattle.base.specs.between.Stores.{Below}
use Rattle.facet_hints.specs.between.Hints.{AddsHints, HintsAsked}
use Rattle.facet_hints.proofs.hint_facets.Given as goal

abbrev pub invariant-loop-i : goal.invariant-loop-i
invariant-loop-i l = (l.i ≤ length l.labels / 4) × AddsHints l.initial.hints l.hints (Below (HintsAsked l.labels) l.i)

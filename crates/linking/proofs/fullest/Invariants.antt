-- `linking::fullest` meets its contract. Assumes nothing.
use mathlib.Core.Path.{◌≡◌}
use mathlib.Core.Logic.{◌⊎◌}
use mathlib.Core.Bool.{true}
use Rattle.facet_hints.specs.between.Hints.{hinted}
use Rattle.linking.proofs.fullest.Given as goal

abbrev pub invariant-loop-x : goal.invariant-loop-x
invariant-loop-x l = (l.p.0 ≡ 65535) ⊎ (hinted l.near.hints.now l.u.0 l.w.0 l.p.0 ≡ true)

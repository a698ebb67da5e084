-- `reaching::next_hinted` meets its contract. Assumes nothing.
use mathlib.Core.Path.{◌≡◌}
use mathlib.Core.Bool.{true}
use Rattle.facet_hints.specs.between.Hints.{hinted}
use Rattle.reaching.proofs.Least.{Passed}
use Rattle.reaching.proofs.next_hinted.Given as goal

abbrev pub invariant-loop-v : goal.invariant-loop-v
invariant-loop-v l = Passed (λ y. hinted l.hints l.u.0 l.x.0 y ≡ true) l.lo l.v

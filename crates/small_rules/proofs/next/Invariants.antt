-- `small_rules::next` meets its contract.
use Prim.Native.Nat.{ℕ, ◌<◌}
use mathlib.Core.Path.{◌≡◌}
use mathlib.Core.Bool.{true}
use Rattle.small_rules.specs.between.Trial.{is_trial}
use Rattle.small_rules.proofs.next.Given as goal

abbrev pub invariant-loop-c : goal.invariant-loop-c
invariant-loop-c l = (l.mark < l.c) × ((d : ℕ) → l.mark < d → d < l.c → is_trial d ≡ true → ⊥)

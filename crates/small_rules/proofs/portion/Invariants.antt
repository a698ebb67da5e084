-- The loop's cells so far are those of `Come`, and the room holds their records.
use Prim.Native.Nat.{◌-◌}
use mathlib.Core.List.{[], ◌∷◌}
use Rattle.portions.specs.between.Steps.{Come}
use Rattle.small_rules.specs.between.Trial.{trial_rule, trials}
use Rattle.small_rules.proofs.portion.Reads as reads
use Rattle.small_rules.proofs.portion.Lts as lts
use Rattle.small_rules.proofs.next.Reads as next-reads
use Rattle.small_rules.proofs.put.Reads as put_reads
use Rattle.small_rules.proofs.portion.Given as goal

abbrev pub invariant-loop-c : goal.invariant-loop-c
invariant-loop-c l = Come trial_rule (trials l.n) (l.mark ∷ []) l.initial.room (l.k ∷ []) l.i l.room

abbrev pub decreases-loop-c : goal.decreases-loop-c
decreases-loop-c l = l.most - l.i

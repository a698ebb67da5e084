-- `small_rules::next` meets its contract.
use native.Mathlib.Omega.{arith}
use borrow.Author.Tests.{eq-eqb}
use Rattle.small_rules.proofs.Trial.{next_yes, next-no}
use Rattle.small_rules.proofs.next.Goals as goal

pub returns-then-mark-n : goal.returns-then-mark-n
returns-then-mark-n c = next-no _ (omega arith) _ 0 (λ d g h e. let z : ⊥ = omega arith in z)

pub returns-then-c-eq1 : goal.returns-then-c-eq1
returns-then-c-eq1 c = let l = c.loop-c in next_yes _ (omega arith) _ _ l.invariant.0 c.loop-c-test.true (eq-eqb _ 1 c.if-c-eq1.true) l.invariant.1

pub returns : goal.returns
returns c = let l = c.loop-c in next-no _ (omega arith) _ 0 (λ d g h e. l.invariant.1 d g (omega arith) e)

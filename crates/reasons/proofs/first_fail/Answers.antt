-- `reasons::first_fail` meets its contract. Assumes nothing.
use Rattle.std.proofs.Common.{◌∙◌, sym, arith}
use Rattle.std.proofs.lemmas.Bool.{not_from_true, not_from_false}
use Rattle.reasons.proofs.First.{fail_start, fail_next, number_found, number_done}
use Rattle.reasons.proofs.first_fail.Goals as goal

pub loop-i-init : goal.loop-i-init
loop-i-init g c = λ p says. fail_start

pub returns-then-not-test : goal.returns-then-not-test
returns-then-not-test g c = λ p says. number_found (c.loop-i.invariant p says) (omega arith) (sym (says _ _ (omega arith) c.test.ensures) ∙ c.if-not-test.true)

pub loop-i-preserved : goal.loop-i-preserved
loop-i-preserved g c = λ p says. fail_next (c.loop-i.invariant p says) (omega arith) (sym (says _ _ (omega arith) c.test.ensures) ∙ c.if-not-test.false)

pub returns : goal.returns
returns g c = λ p says. omega arith ∙ number_done (c.loop-i.invariant p says) (omega arith)

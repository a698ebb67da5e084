-- `reasons::first_fail` meets its contract. Assumes nothing.
use Rattle.std.proofs.Common.{◌≡◌, ℕ, Bool, ◌<◌}
use Rattle.reasons.proofs.First.{FailUp}
use Rattle.reasons.proofs.first_fail.Given as goal

-- by any test that says what the closure answers, all rows before this one pass
abbrev pub invariant-loop-i : goal.invariant-loop-i
invariant-loop-i g l = (p : ℕ → Bool) → ((i : ℕ) (b : Bool) → i < l.k → g.F.Fn.post l.test (i, tt) b → b ≡ p i) → FailUp p (λ j. j) l.k l.i

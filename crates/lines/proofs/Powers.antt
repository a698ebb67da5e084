-- What is left of a number behind its last digits. Assumes nothing.
use Prim.Native.Nat.{ℕ, ◌+◌, ◌-◌, ◌*◌, ◌/◌, ◌^◌, ◌≤◌, ◌<◌}
use mathlib.Core.Path.{◌≡◌, sym, ap, ◌∙◌}
use native.Mathlib.Nat.{pow-zero, pow-suc, one-mul, one-le-pow, div-div-eq-div-mul, le-div_iff_mul-le, div-lt_iff_lt-mul}
use native.Mathlib.Numerals.{add-one}
use native.Mathlib.Omega.{arith}

pub one-left : (n : ℕ) → n / 10 ≡ n / 10 ^ 1
one-left n = ap (λ (d : ℕ). n / d) (sym (pow-suc 10 0 ∙ ap (λ (p : ℕ). p * 10) (pow-zero 10) ∙ one-mul 10))

pub one-more : (n k : ℕ) → n / 10 ^ k / 10 ≡ n / 10 ^ (k + 1)
one-more n k = div-div-eq-div-mul n (10 ^ k) 10 ∙ ap (λ (d : ℕ). n / d) (sym (pow-suc 10 k) ∙ ap (λ (j : ℕ). 10 ^ j) (sym (add-one k)))

-- something is left behind k digits, so one more is wanted
pub held-more : (n k : ℕ) → 0 < n / 10 ^ k → 10 ^ (k + 1 - 1) ≤ n
held-more n k some =
    let e : k + 1 - 1 ≡ k = omega arith in
    let p : 1 * 10 ^ k ≤ n = (le-div_iff_mul-le (one-le-pow k 10 (omega arith))).0 some in
    rw e (omega arith)

-- nothing is left behind k digits
pub held-all : (n k : ℕ) → n / 10 ^ k < 1 → n < 10 ^ k
held-all n k none =
    let p : n < 1 * 10 ^ k = (div-lt_iff_lt-mul (one-le-pow k 10 (omega arith))).0 none in
    omega arith

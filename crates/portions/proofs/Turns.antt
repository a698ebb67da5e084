-- The measure of the search: how many turns are left, at most.
-- Assumes nothing.
use mathlib.Core.Path.{◌≡◌, refl, sym, ap, ap₂}
use mathlib.Core.List.{List}
use Prim.Native.Nat.{ℕ, zero, suc, ◌≤◌, ◌<◌, ◌+◌, ◌-◌, ◌*◌}
use native.Mathlib.Nat.{mul-le-mul_right, suc-mul, sub-zero}
use native.Mathlib.Numerals.{add-one}
use native.Mathlib.Omega.{arith}
use lib.ListN.{length, get_or, set}
use lib.Seq.{get_or-set_same, get_or-set_other}

-- the turns that one candidate takes, at h levels above the last but one
unfoldable pub each : ℕ → ℕ → ℕ
each n zero = 1
each n (suc h) = n * each n h + 2

-- the turns that the candidates from x on take
unfoldable pub rest : ℕ → ℕ → ℕ → ℕ
rest n h x = (n - x) * each n h + 1

-- the turns that are left at the levels below d, where each has gone past its corner of t
unfoldable pub above : ℕ → ℕ → List ℕ → ℕ → ℕ
above n k t zero = 0
above n k t (suc d) = above n k t d + rest n (k - d) (get_or t d 0 + 1)

abbrev pub left : ℕ → ℕ → List ℕ → ℕ → ℕ → ℕ
left n k t d lo = above n k t d + rest n (k - d) lo

some : (n h : ℕ) → 0 < each n h
unfolding each
some n zero = omega arith
some n (suc h) = omega arith

-- a candidate less
fewer : (n w lo c : ℕ) → lo ≤ c → c < n → (n - (c + 1)) * w + w ≤ (n - lo) * w
fewer n w lo c a b =
    let e : (n - (c + 1)) * w + w ≡ suc (n - (c + 1)) * w = sym (suc-mul (n - (c + 1)) w) in
    rw e (mul-le-mul_right w (omega arith))

above_set : (n k : ℕ) (t : List ℕ) (d c e : ℕ) → e ≤ d → above n k (set t d c) e ≡ above n k t e
unfolding above
above_set n k t d c zero h = refl
above_set n k t d c (suc e) h = ap₂ ◌+◌ (above_set n k t d c e (omega arith)) (ap (λ (v : ℕ). rest n (k - e) (v + 1)) (get_or-set_other t d e c 0 (λ q. omega arith)))

above_more : (n k : ℕ) (t : List ℕ) (d : ℕ) → above n k t (d + 1) ≡ above n k t d + rest n (k - d) (get_or t d 0 + 1)
unfolding above
above_more n k t d = rw (add-one d)

rest-is : (n h x : ℕ) → rest n h x ≡ (n - x) * each n h + 1
unfolding rest
rest-is n h x = refl

each-is : (n h g : ℕ) → g ≡ suc h → each n g ≡ (n - 0) * each n h + 2
unfolding each
each-is n h g e = rw (e, sub-zero n)

module _ (n k : ℕ) (t : List ℕ) (d lo : ℕ) where
  module _ (c : ℕ) (a : lo ≤ c) (b : c < n) where
    pub less_descend : d < length t → d + 1 < k → left n k (set t d c) (d + 1) 0 < left n k t d lo
    less_descend l h =
        let at : rest n (k - d) (get_or (set t d c) d 0 + 1) ≡ rest n (k - d) (c + 1) = rw (get_or-set_same t d c 0 l) in
        omega (
          arith,
          above_more n k (set t d c) d,
          above_set n k t d c d (omega arith),
          rest-is n (k - d) (c + 1),
          rest-is n (k - d) lo,
          rest-is n (k - (d + 1)) 0,
          each-is n (k - (d + 1)) (k - d) (omega arith),
          fewer n (each n (k - d)) lo c a b,
        )

    pub less_reject : left n k (set t d c) d (c + 1) < left n k t d lo
    less_reject = omega (arith, above_set n k t d c d (omega arith), rest-is n (k - d) (c + 1), rest-is n (k - d) lo, fewer n (each n (k - d)) lo c a b, some n (k - d))

  pub less_carry : 0 < d → left n k t (d - 1) (get_or t (d - 1) 0 + 1) < left n k t d lo
  less_carry h =
      let e : above n k t d ≡ above n k t (d - 1 + 1) = ap (above n k t) (omega arith) in
      omega (arith, above_more n k t (d - 1), rest-is n (k - d) lo)

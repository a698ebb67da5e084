-- How many digits a number has: the fewest that hold it. Assumes nothing.
use mathlib.Core.Path.{◌≡◌, refl, ◌∙◌, ap}
use mathlib.Core.Bool.{Bool, true, false, cond}
use mathlib.Core.List.{List}
use Prim.Native.Nat.{ℕ, zero, suc, ◌+◌, ◌-◌, ◌*◌, ◌/◌, ◌%◌, ◌^◌, ◌≤◌, ◌<◌}
use native.Mathlib.Nat.{div-add-mod', pow-succ', pow-le-pow_right, mod-lt}
use native.Mathlib.Decide.{dec_lt}
use native.Mathlib.Omega.{arith}
use borrow.Author.Tests.{ltb-true, ltb-false}
use lib.Dec.{ltb}
use lib.ListN.{length, length-append}
use Rattle.lines.specs.Text.{last_digits, IsDigitCount, places_in, decimal}

-- no two counts are both the fewest
above : (n k j : ℕ) → IsDigitCount n k → IsDigitCount n j → k < j → ⊥
above n k j a b h =
    let low : 10 ^ (j - 1) ≤ n = b.2 (omega arith) in
    let mono : 10 ^ k ≤ 10 ^ (j - 1) = pow-le-pow_right (omega arith) (omega arith) in
    omega (arith, a.1)

pub fewest-once : (n k j : ℕ) → IsDigitCount n k → IsDigitCount n j → k ≡ j
fewest-once n k j a b = omega (arith, above n k j a b, above n j k b a)

-- one digit more in front of k of n / 10
step : (n k : ℕ) → 10 ≤ n → IsDigitCount (n / 10) k → IsDigitCount n (suc k)
step n k t f =
    let e : 10 ^ suc k ≡ 10 * 10 ^ k = pow-succ' 10 k in
    let d : n / 10 * 10 + n % 10 ≡ n = div-add-mod' n 10 in
    let m : n % 10 < 10 = mod-lt n (omega arith) in
    (omega arith, omega (arith, f.1), λ h. low k f.2)
  where
    low : (k : ℕ) → (1 < k → 10 ^ (k - 1) ≤ n / 10) → 10 ^ (suc k - 1) ≤ n
    low zero g = omega arith
    low (suc zero) g = t
    low (suc (suc j)) g =
        let e : 10 ^ suc (suc j) ≡ 10 * 10 ^ suc j = pow-succ' 10 (suc j) in
        let q : suc (suc j) - 1 ≡ suc j = omega arith in
        let h : 10 ^ suc j ≤ n / 10 = rw q at (g (omega arith)) in
        let d : n / 10 * 10 + n % 10 ≡ n = div-add-mod' n 10 in
        let r : suc (suc (suc j)) - 1 ≡ suc (suc j) = omega arith in
        rw r (omega arith)

pub places-fewest : (k n : ℕ) → n < 10 ^ suc k → IsDigitCount n (places_in k n)
unfolding places_in
places-fewest zero n h = (omega arith, h, λ (l : 1 < 1). omega arith)
places-fewest (suc k) n h = go (ltb n 10) refl (places-fewest k (n / 10) (omega (arith, pow-succ' 10 (suc k), div-add-mod' n 10)))
  where
    go : (b : Bool) → ltb n 10 ≡ b → IsDigitCount (n / 10) (places_in k (n / 10)) → IsDigitCount n (cond b 1 (suc (places_in k (n / 10))))
    go true e f = (omega arith, ltb-true n 10 e, λ (l : 1 < 1). omega arith)
    go false e f = step n (places_in k (n / 10)) (ltb-false n 10 e) f

pub digits_length : (k n : ℕ) → length (last_digits k n) ≡ k
digits_length zero n = refl
digits_length (suc k) n = omega (arith, length-append (last_digits k (n / 10)) (last_digits 1 n), digits_length k (n / 10))

pub places-most : (k n : ℕ) → places_in k n ≤ suc k
unfolding places_in
places-most zero n = omega arith
places-most (suc k) n = go (ltb n 10) (places-most k (n / 10))
  where
    go : (b : Bool) → places_in k (n / 10) ≤ suc k → cond b 1 (suc (places_in k (n / 10))) ≤ suc (suc k)
    go true h = omega arith
    go false h = omega arith

-- the digits of a 64-bit number, where there are the fewest
module _ {n r : ℕ} (small : n < 18446744073709551616) (f : IsDigitCount n r) where
  pub decimal-is : {text : List ℕ} → text ≡ last_digits r n → text ≡ decimal n
  unfolding decimal
  decimal-is e = e ∙ ap (λ k. last_digits k n) (fewest-once n r (places_in 19 n) f (places-fewest 19 n (omega arith)))

  -- twenty hold it
  pub fewest-most : r ≤ 20
  fewest-most = rw (fewest-once n r (places_in 19 n) f (places-fewest 19 n (omega arith))) (places-most 19 n)

-- a number below a power of 10 has no more digits than that says
pub decimal-short : (k n : ℕ) → k ≤ 19 → n < 10 ^ suc k → length (decimal n) ≤ suc k
unfolding decimal
decimal-short k n g h =
    let all : (j : ℕ) → suc k ≤ j → 10 ^ suc k ≤ 10 ^ j = λ j l. pow-le-pow_right (omega arith) l in
    let f = places-fewest 19 n (omega (arith, all 20 (omega arith))) in
    let p = places_in 19 n in
    elim (dec_lt (suc k) p) [
      | yes l ↦ absurd (omega (arith, all (p - 1) (omega arith), f.2 (omega arith)))
      | no l ↦ omega (arith, digits_length p n)
    ]

pub decimal-length : (n : ℕ) → length (decimal n) ≤ 20
unfolding decimal
decimal-length n = omega (arith, digits_length (places_in 19 n) n, places-most 19 n)

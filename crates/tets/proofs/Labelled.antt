-- What follows for the labels where neither refusal 5 nor 6 applies. Assumes nothing.
use mathlib.Core.Path.{◌≡◌}
use mathlib.Core.Bool.{Bool, false, not, ◌||◌}
use mathlib.Core.List.{List}
use Prim.Native.Nat.{ℕ, zero, suc, ◌+◌, ◌*◌, ◌/◌, ◌-◌, ◌≤◌, ◌<◌}
use native.Mathlib.Decide.{dec_lt}
use native.Mathlib.Omega.{arith}
use lib.Dec.{leb}
use lib.ListN.{length, get_or}
use borrow.Author.Tests.{leb-false, not-false}
use Rattle.base.specs.Lists.{any, from, up_to, distinct}
use Rattle.space.specs.Arrays.{row4}
use Rattle.tets_around.specs.between.Index.{Labelled}
use Rattle.tets_around.proofs.Rows.{or_left, or_right}
use Rattle.tets.specs.Tets.{outside, twice, any_outside, any_twice}

-- ---- a test that fails at all fails at each

module _ (q : ℕ → Bool) where
  none_of : (k i j : ℕ) → (q i || any q (from (suc i) k)) ≡ false → i ≤ j → Dec (i < j) → (any q (from (suc i) k) ≡ false → i < j → q j ≡ false) → q j ≡ false
  none_of k i j e h (yes l) f = f (or_right (q i) (any q (from (suc i) k)) e) l
  none_of k i j e h (no l) f = let s : j ≡ i = omega arith in rw s (or_left (q i) (any q (from (suc i) k)) e)

  none_from : (k i j : ℕ) → any q (from i k) ≡ false → i ≤ j → j < i + k → q j ≡ false
  none_from zero i j e h g = absurd (omega arith)
  none_from (suc k) i j e h g = none_of k i j e h (dec_lt i j) (λ d l. none_from k (suc i) j d (omega arith) (omega arith))

  pub none-at : (t j : ℕ) → any q (up_to t) ≡ false → j < t → q j ≡ false
  none-at t j e h = none_from t 0 j e (omega arith) (omega arith)

-- ---- labels

below_of : (n : ℕ) (ls : List ℕ) (j k r : ℕ) → any (leb n) (row4 ls j) ≡ false → k ≡ 4 * j + r → r < 4 → get_or ls k 0 < n
below_of n ls j k zero e s h = let z : k ≡ 4 * j = omega arith in rw z (leb-false _ _ (or_left (leb n (get_or ls (4 * j) 0)) _ e))
below_of n ls j k (suc zero) e s h = rw s (leb-false _ _ (or_left (leb n (get_or ls (4 * j + 1) 0)) _ (or_right (leb n (get_or ls (4 * j) 0)) _ e)))
below_of n ls j k (suc (suc zero)) e s h = rw s (leb-false _ _ (or_left (leb n (get_or ls (4 * j + 2) 0)) _ (or_right (leb n (get_or ls (4 * j + 1) 0)) _ (or_right (leb n (get_or ls (4 * j) 0)) _ e))))
below_of n ls j k (suc (suc (suc zero))) e s h = rw s (leb-false _ _ (or_left (leb n (get_or ls (4 * j + 3) 0)) _ (or_right (leb n (get_or ls (4 * j + 2) 0)) _ (or_right (leb n (get_or ls (4 * j + 1) 0)) _ (or_right (leb n (get_or ls (4 * j) 0)) _ e)))))
below_of n ls j k (suc (suc (suc (suc r)))) e s h = absurd (omega arith)

pub labelled-of : (n : ℕ) (ls : List ℕ) → length ls ≡ 4 * (length ls / 4) → length ls ≤ 8192 → any_outside n ls ≡ false → any_twice ls ≡ false → Labelled ls n
unfolding outside twice
labelled-of n ls w f a b = record {
  whole = w;
  few = f;
  below = λ k h. below_of n ls (k / 4) k (k - 4 * (k / 4)) (none-at (λ e. any (leb n) (row4 ls e)) (length ls / 4) (k / 4) a (omega arith)) (omega arith) (omega arith);
  apart = λ j h. not-false (distinct (row4 ls j)) (none-at (λ e. not (distinct (row4 ls e))) (length ls / 4) j b h);
}

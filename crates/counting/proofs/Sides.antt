-- Which corners the tetrahedra have, once as bits:
-- what is counted by the bits is what is counted by the labels. Assumes nothing.
use mathlib.Core.Path.{◌≡◌, refl, sym, ◌∙◌, ap, ap₂}
use mathlib.Core.Bool.{Bool, true, false, cond, ◌&&◌, ◌||◌}
use mathlib.Core.List.{List, [], ◌∷◌, map}
use Prim.Native.Nat.{ℕ, zero, suc, ◌+◌, ◌*◌, ◌/◌, ◌≤◌, ◌<◌}
use native.Mathlib.Nat.{add-zero, mul-zero, zero-mul, one-mul}
use native.Mathlib.Omega.{arith}
use borrow.Author.Tests.{ltb-true}
use mir.Val.{bool_byte}
use lib.Dec.{eqb, ltb}
use lib.ListN.{length, get_or}
use Rattle.base.specs.Lists.{all, count, from, up_to, is_in}
use Rattle.base.proofs.Bools.{or-false, and_left, and_right}
use Rattle.base.proofs.Loop.{CountUp, count_skip, count-more, count-done, listed}
use Rattle.space.specs.Arrays.{row4}
use Rattle.tets_around.specs.Sharing.{has_all}
use Rattle.tets_around.proofs.Around.{count_map}
use Rattle.templates.specs.Tables.{at}
use Rattle.cells.specs.Cells.{one_diagonal, other_diagonal, one, none_or_two, sides_of, once, paired, covers, fills}
use Rattle.cells.specs.between.Rows.{row3, threes, fours}
use Rattle.counting.specs.between.Bits.{bit_of, BitsOf, Bits, sides_by, low, Lettered}

-- ---- one row of bits

bit-small : (b : Bool) (m : ℕ) → m ≡ cond b 1 0 → m ≤ 1
bit-small true m e = omega arith
bit-small false m e = omega arith

bit_is : (b : Bool) (m : ℕ) → m ≡ cond b 1 0 → eqb m 1 ≡ b
bit_is true m e = rw e
bit_is false m e = rw e

-- the bit as it is made
byte_is : (b : Bool) → bool_byte b ≡ cond b 1 0
byte_is true = refl
byte_is false = refl

pub mark_of : (ls c : List ℕ) (i j v : ℕ) → v ≡ get_or c j 0 → bool_byte (eqb v (get_or ls (4 * i) 0) || (eqb v (get_or ls (4 * i + 1) 0) || (eqb v (get_or ls (4 * i + 2) 0) || eqb v (get_or ls (4 * i + 3) 0)))) ≡ bit_of ls c i j
mark_of ls c i j v e =
    let is = eqb v in
    rw (sym e, or-false (is (get_or ls (4 * i + 3) 0))) (byte_is (is (get_or ls (4 * i) 0) || (is (get_or ls (4 * i + 1) 0) || (is (get_or ls (4 * i + 2) 0) || is (get_or ls (4 * i + 3) 0)))))

-- two bits, and three
pub both_small : (a b : ℕ) → a ≤ 1 → b ≤ 1 → a * b ≤ 1
both_small zero b g h = rw zero-mul (omega arith)
both_small (suc zero) b g h = rw one-mul h
both_small (suc (suc a)) b g h = absurd (omega arith)

pub product : (a b d : ℕ) → a ≤ 1 → b ≤ 1 → d ≤ 1 → a * b * d ≡ cond (eqb a 1 && (eqb b 1 && (eqb d 1 && true))) 1 0
product zero b d g h k = simp zero-mul
product (suc zero) zero d g h k = simp (mul-zero, zero-mul)
product (suc zero) (suc zero) zero g h k = simp mul-zero
product (suc zero) (suc zero) (suc zero) g h k = refl
product (suc zero) (suc zero) (suc (suc d)) g h k = absurd (omega arith)
product (suc zero) (suc (suc b)) d g h k = absurd (omega arith)
product (suc (suc a)) b d g h k = absurd (omega arith)

-- ---- the count by bits

abbrev pub are_set : List ℕ → List ℕ → ℕ → Bool
are_set has ks k = all (λ j. eqb (get_or has (8 * k + j) 0) 1) ks

-- one row more, which counts where the test passes
pub count-bit : {q : ℕ → Bool} {n i k : ℕ} → CountUp q (λ j. j) n i k → i < n → (m : ℕ) → m ≡ cond (q i) 1 0 → CountUp q (λ j. j) n (i + 1) (k + m)
count-bit {q} {n} {i} {k} a h m e = go (q i) refl e
  where
    go : (b : Bool) → q i ≡ b → m ≡ cond b 1 0 → CountUp q (λ j. j) n (i + 1) (k + m)
    go true t e = rw e (count-more a h t)
    go false t e = rw (e, add-zero k) (count_skip a h t)

pub count-all : (has ks : List ℕ) {i k : ℕ} → CountUp (are_set has ks) (λ j. j) (length has / 8) i k → length has / 8 ≤ i → k ≡ sides_by has ks
unfolding sides_by
count-all has ks a h = count-done a h ∙ count_map (λ j. j) (are_set has ks) (up_to (length has / 8))

-- ---- corners below 8

low-at : (rows : List ℕ) → low rows ≡ true → (i : ℕ) → ltb (get_or rows i 0) 8 ≡ true
unfolding low
low-at [] e i = refl
low-at (x ∷ xs) e zero = and_left (ltb x 8) (all (λ j. ltb j 8) xs) e
low-at (x ∷ xs) e (suc i) = low-at xs (and_right (ltb x 8) (all (λ j. ltb j 8) xs) e) i

pub low_below : (rows : List ℕ) → low rows ≡ true → (i : ℕ) → get_or rows i 0 < 8
low_below rows e i = ltb-true _ _ (low-at rows e i)

low_three : (a b d : ℕ) → ltb a 8 ≡ true → ltb b 8 ≡ true → ltb d 8 ≡ true → low (a ∷ b ∷ d ∷ []) ≡ true
unfolding low
low_three a b d e f g = rw (e, f, g)

-- tests that agree at each row
all-rows : {A : Type 0} (p q : A → Bool) (f : ℕ → A) → ((i : ℕ) → p (f i) ≡ q (f i)) → (is : List ℕ) → all p (map f is) ≡ all q (map f is)
all-rows p q f h [] = refl
all-rows p q f h (i ∷ is) = ap₂ (λ a b. a && b) (h i) (all-rows p q f h is)

-- ---- the same count by the labels

module _ {ls xs c has : List ℕ} (d : BitsOf ls xs c has) where
  pub bits_are_small : Bits has
  bits_are_small = record { small = λ k j h l. bit-small (is_in (get_or c j 0) (row4 ls (get_or xs k 0))) (get_or has (8 * k + j) 0) (d.is k j (omega (arith, d.long)) l) }

  row_is : (k : ℕ) → k < length xs → (ks : List ℕ) → low ks ≡ true → are_set has ks k ≡ has_all ls (at c ks) (get_or xs k 0)
  unfolding low
  row_is k h [] e = refl
  row_is k h (j ∷ js) e =
      let l = ltb-true j 8 (and_left (ltb j 8) (all (λ i. ltb i 8) js) e) in
      ap₂ (λ a b. a && b) (bit_is (is_in (get_or c j 0) (row4 ls (get_or xs k 0))) (get_or has (8 * k + j) 0) (d.is k j h l)) (row_is k h js (and_right (ltb j 8) (all (λ i. ltb i 8) js) e))

  rows_are : (ks : List ℕ) → low ks ≡ true → (i m : ℕ) → i + m ≤ length xs → count (are_set has ks) (from i m) ≡ count (λ k. has_all ls (at c ks) (get_or xs k 0)) (from i m)
  rows_are ks e i zero h = refl
  rows_are ks e i (suc m) h = ap₂ (λ b r. cond b (suc r) r) (row_is i (omega arith) ks e) (rows_are ks e (suc i) m (omega arith))

  sides_are : (ks : List ℕ) → low ks ≡ true → sides_by has ks ≡ sides_of (row4 ls) xs c ks
  unfolding sides_by
  sides_are ks e =
      let q : length has / 8 ≡ length xs = omega (arith, d.long) in
      ap (λ n. count (are_set has ks) (up_to n)) q
      ∙ rows_are ks e 0 (length xs) (omega arith)
      ∙ sym (count_map (λ k. get_or xs k 0) (has_all ls (at c ks)) (up_to (length xs)))
      ∙ ap (count (has_all ls (at c ks))) (listed 0 xs)

  three_are : (rows : List ℕ) → low rows ≡ true → (i j k : ℕ) → sides_by has (get_or rows i 0 ∷ get_or rows j 0 ∷ get_or rows k 0 ∷ []) ≡ sides_of (row4 ls) xs c (get_or rows i 0 ∷ get_or rows j 0 ∷ get_or rows k 0 ∷ [])
  three_are rows e i j k = sides_are _ (low_three _ _ _ (low-at rows e i) (low-at rows e j) (low-at rows e k))

  covers_are : (rows : List ℕ) → low rows ≡ true → (i : ℕ) → covers (sides_by has) (row4 rows i) ≡ covers (sides_of (row4 ls) xs c) (row4 rows i)
  unfolding one_diagonal other_diagonal
  covers_are rows e i =
      rw (
        three_are rows e (4 * i) (4 * i + 1) (4 * i + 2),
        three_are rows e (4 * i) (4 * i + 2) (4 * i + 3),
        three_are rows e (4 * i) (4 * i + 1) (4 * i + 3),
        three_are rows e (4 * i + 1) (4 * i + 2) (4 * i + 3),
      )

  pub fills_are : (ts qs ws : List ℕ) → Lettered ts qs ws → fills (sides_by has) (threes ts) (fours qs) (threes ws) ≡ fills (sides_of (row4 ls) xs c) (threes ts) (fours qs) (threes ws)
  fills_are ts qs ws l =
      rw (
        all-rows (once (sides_by has)) (once (sides_of (row4 ls) xs c)) (row3 ts) (λ i. ap one (three_are ts l.triangles (3 * i) (3 * i + 1) (3 * i + 2))) (up_to (length ts / 3)),
        all-rows (covers (sides_by has)) (covers (sides_of (row4 ls) xs c)) (row4 qs) (covers_are qs l.quads) (up_to (length qs / 4)),
        all-rows (paired (sides_by has)) (paired (sides_of (row4 ls) xs c)) (row3 ws) (λ i. ap none_or_two (three_are ws l.within (3 * i) (3 * i + 1) (3 * i + 2))) (up_to (length ws / 3)),
      )

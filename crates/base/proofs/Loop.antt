-- A loop that counts i up to n and tests f i: what it computes of the list of f at each number below n.
-- `AllUp q f n i` is the invariant of a loop that tests `all q`;
-- it starts at 0, goes on where the test passes, and ends where it fails or i is n.
-- `AnyUp` and `CountUp` are those of `any` and `count`.
-- A table's rows, a mesh's tetrahedra and a list's elements (`listed`) are such lists.
-- Assumes nothing.
use mathlib.Core.Path.{◌≡◌, refl, sym, ◌∙◌, ap}
use mathlib.Core.Bool.{Bool, true, false}
use mathlib.Core.List.{List, [], ◌∷◌, map}
use Prim.Native.Nat.{ℕ, zero, suc, ◌+◌, ◌-◌, ◌≤◌, ◌<◌}
use native.Mathlib.Numerals.{add-one}
use native.Mathlib.Nat.{sub-zero}
use native.Mathlib.Omega.{arith}
use lib.ListN.{length, get_or, take, drop, length-map, length-drop, drop_of_length-le, get_or-eq_default}
use lib.Seq.{take_all, drop-cons}
use Rattle.base.specs.Lists.{all, any, count, from, up_to, is_in, distinct}

-- the numbers from i up to n
abbrev pub rest : ℕ → ℕ → List ℕ
rest i n = from i (n - i)

pub rest-start : (n : ℕ) → rest 0 n ≡ up_to n
rest-start n = rw sub-zero

pub rest-next : (i n : ℕ) → i < n → rest i n ≡ i ∷ rest (i + 1) n
rest-next i n h = let e : n - i ≡ suc (n - (i + 1)) = omega arith in rw (e, add-one)

pub rest_end : (i n : ℕ) → n ≤ i → rest i n ≡ []
rest_end i n h = let e : n - i ≡ 0 = omega arith in rw e

module _ {A : Type 0} (q : A → Bool) (f : ℕ → A) (n : ℕ) where
  abbrev pub whole : List A
  whole = map f (up_to n)

  abbrev pub left : ℕ → List A
  left i = map f (rest i n)

  left-start : left 0 ≡ whole
  left-start = ap (map f) (rest-start n)

  left-next : (i : ℕ) → i < n → left i ≡ f i ∷ left (i + 1)
  left-next i h = ap (map f) (rest-next i n h)

  left_end : (i : ℕ) → n ≤ i → left i ≡ []
  left_end i h = ap (map f) (rest_end i n h)

  pub record AllUp (i : ℕ) : Type 0 where
    pub low : i ≤ n
    pub same : all q whole ≡ all q (left i)

  pub record AnyUp (i : ℕ) : Type 0 where
    pub low : i ≤ n
    pub same : any q whole ≡ any q (left i)

  pub record CountUp (i k : ℕ) : Type 0 where
    pub low : i ≤ n
    pub same : count q whole ≡ k + count q (left i)

module _ {A : Type 0} {q : A → Bool} {f : ℕ → A} {n : ℕ} where
  pub all_start : AllUp q f n 0
  all_start = record { low = omega arith; same = ap (all q) (sym (left-start q f n)) }

  pub all-next : {i : ℕ} → AllUp q f n i → i < n → q (f i) ≡ true → AllUp q f n (i + 1)
  all-next {i} a h t = record { low = omega arith; same = a.same ∙ rw (left-next q f n i h, t) }

  pub all-fails : {i : ℕ} → AllUp q f n i → i < n → q (f i) ≡ false → false ≡ all q (map f (up_to n))
  all-fails {i} a h t = sym (a.same ∙ rw (left-next q f n i h, t))

  pub all_done : {i : ℕ} → AllUp q f n i → n ≤ i → true ≡ all q (map f (up_to n))
  all_done {i} a h = sym (a.same ∙ rw (left_end q f n i h))

  pub any-start : AnyUp q f n 0
  any-start = record { low = omega arith; same = ap (any q) (sym (left-start q f n)) }

  pub any_next : {i : ℕ} → AnyUp q f n i → i < n → q (f i) ≡ false → AnyUp q f n (i + 1)
  any_next {i} a h t = record { low = omega arith; same = a.same ∙ rw (left-next q f n i h, t) }

  pub any_found : {i : ℕ} → AnyUp q f n i → i < n → q (f i) ≡ true → true ≡ any q (map f (up_to n))
  any_found {i} a h t = sym (a.same ∙ rw (left-next q f n i h, t))

  pub any-done : {i : ℕ} → AnyUp q f n i → n ≤ i → false ≡ any q (map f (up_to n))
  any-done {i} a h = sym (a.same ∙ rw (left_end q f n i h))

  pub count-start : CountUp q f n 0 0
  count-start = record { low = omega arith; same = ap (count q) (sym (left-start q f n)) ∙ omega arith }

  pub count_skip : {i k : ℕ} → CountUp q f n i k → i < n → q (f i) ≡ false → CountUp q f n (i + 1) k
  count_skip {i} {k} a h t = record { low = omega arith; same = a.same ∙ rw (left-next q f n i h, t) }

  pub count-more : {i k : ℕ} → CountUp q f n i k → i < n → q (f i) ≡ true → CountUp q f n (i + 1) (k + 1)
  count-more {i} {k} a h t = record { low = omega arith; same = a.same ∙ rw (left-next q f n i h, t) (omega arith) }

  pub count-done : {i k : ℕ} → CountUp q f n i k → n ≤ i → k ≡ count q (map f (up_to n))
  count-done {i} {k} a h = sym (a.same ∙ rw (left_end q f n i h) (omega arith))

-- the elements of a list, by their places
get_or-cons : {A : Type 0} (x : A) (xs : List A) (d : A) (i k : ℕ) → map (λ j. get_or (x ∷ xs) j d) (from (suc i) k) ≡ map (λ j. get_or xs j d) (from i k)
get_or-cons x xs d i zero = refl
get_or-cons x xs d i (suc k) = ap (λ l. get_or xs i d ∷ l) (get_or-cons x xs d (suc i) k)

pub listed : {A : Type 0} (d : A) (xs : List A) → map (λ j. get_or xs j d) (up_to (length xs)) ≡ xs
listed d [] = refl
listed d (x ∷ xs) = ap (λ l. x ∷ l) (get_or-cons x xs d 0 (length xs) ∙ listed d xs)

pub length_from : (i k : ℕ) → length (from i k) ≡ k
length_from i zero = refl
length_from i (suc k) = ap suc (length_from (suc i) k)

-- element i of such a list, and none past its end
get_or-from : {A : Type 0} (f : ℕ → A) (d : A) (k j i : ℕ) → i < k → get_or (map f (from j k)) i d ≡ f (j + i)
get_or-from f d zero j i h = absurd (omega arith)
get_or-from f d (suc k) j zero h = ap f (omega arith)
get_or-from f d (suc k) j (suc i) h = get_or-from f d k (suc j) i (omega arith) ∙ ap f (omega arith)

pub get_or-up : {A : Type 0} (f : ℕ → A) (d : A) (n i : ℕ) → i < n → get_or (map f (up_to n)) i d ≡ f i
get_or-up f d n i h = get_or-from f d n 0 i h ∙ ap f (omega arith)

pub get_d_past : {A : Type 0} (f : ℕ → A) (d : A) (n i : ℕ) → n ≤ i → get_or (map f (up_to n)) i d ≡ d
get_d_past f d n i h = get_or-eq_default (map f (up_to n)) d {n = i} (omega (arith, length-map (up_to n) f, length_from 0 n))

-- `&xs[k..]`
pub part-is : (k : ℕ) (xs : List ℕ) → take (length xs - k) (drop k xs) ≡ drop k xs
part-is k xs = take_all (length xs - k) (drop k xs) (omega (arith, length-drop k xs))

pub part_in : (v k : ℕ) (xs : List ℕ) → is_in v (take (length xs - k) (drop k xs)) ≡ is_in v (drop k xs)
part_in v k xs = ap (is_in v) (part-is k xs)

-- the loop that tests `distinct`: element i against those after it
pub record DistinctUp (xs : List ℕ) (i : ℕ) : Type 0 where
  pub low : i ≤ length xs
  pub same : distinct xs ≡ distinct (drop i xs)

pub distinct-start : (xs : List ℕ) → DistinctUp xs 0
distinct-start xs = record { low = omega arith; same = refl }

module _ {xs : List ℕ} {i : ℕ} (a : DistinctUp xs i) where
  pub distinct-fails : i < length xs → is_in (get_or xs i 0) (drop (i + 1) xs) ≡ true → false ≡ distinct xs
  distinct-fails h t =
      let d : drop i xs ≡ get_or xs i 0 ∷ drop (i + 1) xs = rw (add-one i) (drop-cons xs i 0 h) in
      sym (a.same ∙ rw (d, t))

  pub distinct-next : i < length xs → is_in (get_or xs i 0) (drop (i + 1) xs) ≡ false → DistinctUp xs (i + 1)
  distinct-next h t =
      let d : drop i xs ≡ get_or xs i 0 ∷ drop (i + 1) xs = rw (add-one i) (drop-cons xs i 0 h) in
      record { low = omega arith; same = a.same ∙ rw (d, t) }

  pub distinct-done : length xs ≤ i → true ≡ distinct xs
  distinct-done h = sym (a.same ∙ rw (drop_of_length-le xs h))

pub length_up : {A : Type 0} (f : ℕ → A) (n : ℕ) → length (map f (up_to n)) ≡ n
length_up f n = length-map (up_to n) f ∙ length_from 0 n

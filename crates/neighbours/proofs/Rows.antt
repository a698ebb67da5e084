-- One more number, block, row or offset: what a turn of each loop adds. Assumes nothing.
use mathlib.Core.Path.{◌≡◌, refl, sym, ◌∙◌, ap, fun_ext}
use mathlib.Core.Bool.{Bool, true, false, cond, not, ◌&&◌, and-false}
use mathlib.Core.List.{List, [], ◌∷◌, ◌++◌, map, append-nil}
use Prim.Native.Nat.{ℕ, zero, suc, ◌+◌, ◌-◌, ◌≤◌, ◌<◌}
use native.Mathlib.Nat.{zero-add}
use native.Mathlib.Numerals.{add-one}
use native.Mathlib.Omega.{arith}
use lib.Dec.{eqb}
use lib.ListN.{length, length-append, length-map}
use Rattle.base.specs.Lists.{keep, spread, from, up_to}
use Rattle.base.proofs.Lists.{keep_append}
use Rattle.base.proofs.Loop.{length_from}
use Rattle.base.proofs.Runs.{spread-append, spread-up, map-append, from-add, up_to-more, keep_same}
use Rattle.neighbours.specs.Table.{neighbour_row, first_rows, offsets, table_by}
use Rattle.matrix.specs.between.Matrix.{next_to}
use Rattle.neighbours.specs.between.Grown.{part_of}

-- ---- a part of a row
module _ (f : ℕ → ℕ → Bool) (u v : ℕ) where
  pub part_none : part_of f u v 0 ≡ []
  unfolding keep
  part_none = refl

  pub part-add : (j k : ℕ) → part_of f u v (j + k) ≡ part_of f u v j ++ part_of f u (v + j) k
  part-add j k = ap (keep (next_to f u)) (from-add v j k) ∙ keep_append (next_to f u) (from v j) (from (v + j) k)

  part-more : (j : ℕ) → part_of f u v (j + 1) ≡ part_of f u v j ++ cond (next_to f u (v + j)) ((v + j) ∷ []) []
  unfolding keep
  part-more j = part-add j 1

  pub part_yes : (j : ℕ) → next_to f u (v + j) ≡ true → part_of f u v (j + 1) ≡ part_of f u v j ++ (v + j) ∷ []
  part_yes j h = part-more j ∙ ap (λ b. part_of f u v j ++ cond b ((v + j) ∷ []) []) h

  pub part_no : (j : ℕ) → next_to f u (v + j) ≡ false → part_of f u v (j + 1) ≡ part_of f u v j
  part_no j h = part-more j ∙ ap (λ b. part_of f u v j ++ cond b ((v + j) ∷ []) []) h ∙ append-nil (part_of f u v j)

  pub part-le : (j k : ℕ) → j ≤ k → length (part_of f u v j) ≤ length (part_of f u v k)
  part-le j k h =
      let e : k ≡ j + (k - j) = omega arith in
      omega (arith, ap (λ i. length (part_of f u v i)) e, ap length (part-add j (k - j)), length-append (part_of f u v j) (part_of f u (v + j) (k - j)))

  -- nothing joined, no entry
  pub part_blank : (k : ℕ) → ((i : ℕ) → i < k → f u (v + i) ≡ false) → part_of f u v k ≡ []
  part_blank zero h = part_none
  part_blank (suc k) h =
      let n : next_to f u (v + k) ≡ false = ap (λ t. not (eqb u (v + k)) && t) (h k (omega arith)) ∙ and-false (not (eqb u (v + k))) in
      ap (part_of f u v) (sym (add-one k)) ∙ part_no k n ∙ part_blank k (λ i l. h i (omega arith))

-- ---- a row
module _ (f : ℕ → ℕ → Bool) (u : ℕ) where
  pub row-none : neighbour_row f 0 u ≡ []
  unfolding neighbour_row
  row-none = part_none f u 0

  pub row-add : (v k : ℕ) → neighbour_row f (v + k) u ≡ neighbour_row f v u ++ part_of f u v k
  unfolding neighbour_row
  row-add v k = part-add f u 0 v k ∙ ap (λ w. neighbour_row f v u ++ part_of f u w k) (zero-add v)

  pub row_room : (v k n : ℕ) → v + k ≤ n → length (neighbour_row f v u) + length (part_of f u v k) ≤ length (neighbour_row f n u)
  unfolding neighbour_row
  row_room v k n h = omega (arith, ap length (row-add v k), length-append (neighbour_row f v u) (part_of f u v k), part-le f u 0 (v + k) n h)

-- ---- rows
module _ (row : ℕ → List ℕ) where
  pub rows_none : first_rows row 0 ≡ []
  unfolding first_rows spread
  rows_none = refl

  pub rows_more : (u : ℕ) → first_rows row (u + 1) ≡ first_rows row u ++ row u
  unfolding first_rows
  rows_more u = spread-up row u

  pub rows-up : (u : ℕ) → length (first_rows row (u + 1)) ≡ length (first_rows row u) + length (row u)
  rows-up u = ap length (rows_more u) ∙ length-append (first_rows row u) (row u)

  pub rows-le : (u n : ℕ) → u ≤ n → length (first_rows row u) ≤ length (first_rows row n)
  unfolding first_rows
  rows-le u n h =
      let e : n ≡ u + (n - u) = omega arith in
      let a = ap (λ k. length (first_rows row k)) e in
      let b = ap (λ l. length (spread row l)) (from-add 0 u (n - u)) in
      let d = ap length (spread-append row (up_to u) (from (0 + u) (n - u))) in
      omega (arith, a, b, d, length-append (first_rows row u) (spread row (from (0 + u) (n - u))))

  -- the first k offsets
  abbrev pub offs : ℕ → List ℕ
  offs k = map (λ u. length (first_rows row u)) (up_to k)

  pub offs_none : offs 0 ≡ []
  offs_none = refl

  pub offs_more : (u : ℕ) → offs (u + 1) ≡ offs u ++ length (first_rows row u) ∷ []
  offs_more u = ap (map (λ u. length (first_rows row u))) (up_to-more u) ∙ map-append (λ u. length (first_rows row u)) (up_to u) (u ∷ [])

  pub length_offs : (k : ℕ) → length (offs k) ≡ k
  length_offs k = length-map (up_to k) (λ u. length (first_rows row u)) ∙ length_from 0 k

  pub offs_all : (n : ℕ) → offs (n + 1) ≡ offsets row n
  unfolding offsets
  offs_all n = refl

  pub length-table : (n : ℕ) → length (table_by row n) ≡ n + 1 + length (first_rows row n)
  unfolding table_by
  length-table n = length-append (offsets row n) (first_rows row n) ∙ ap (λ k. k + length (first_rows row n)) (ap length (sym (offs_all n)) ∙ length_offs (n + 1))

-- ---- the same row by another test
pub row_same : (f g : ℕ → ℕ → Bool) (n : ℕ) → n ≤ 512 → ((x y : ℕ) → y < 512 → f x y ≡ g x y) → neighbour_row f n ≡ neighbour_row g n
unfolding neighbour_row
row_same f g n b h = fun_ext (λ u. keep_same (next_to f u) (next_to g u) 0 n (λ v l. ap (λ t. not (eqb u v) && t) (h u v (omega arith))))

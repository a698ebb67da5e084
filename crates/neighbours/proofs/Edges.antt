-- The neighbour table has every edge twice, at each of its ends. Assumes nothing.
use mathlib.Core.Path.{◌≡◌, refl, sym, ◌∙◌, ap, fun_ext}
use mathlib.Core.Bool.{Bool, true, false, cond, not, ◌&&◌, and-true, and_comm}
use mathlib.Core.List.{List, [], ◌∷◌}
use Prim.Native.Nat.{ℕ, zero, suc, ◌+◌, ◌*◌}
use native.Mathlib.Numerals.{add-one}
use native.Mathlib.Omega.{arith}
use borrow.Author.Tests.{eq-eqb, ne_eqb}
use lib.ListN.{length, length-append}
use Rattle.base.specs.Lists.{any, keep, up_to, is_in}
use Rattle.base.proofs.Lists.{keep_append}
use Rattle.base.proofs.Runs.{up_to-more, keep_same}
use Rattle.space.specs.Mesh.{Mesh, together}
use Rattle.matrix.specs.between.Matrix.{next_to}
use Rattle.neighbours.specs.Table.{neighbour_row, first_rows, neighbours_of, table_of}
use Rattle.neighbours.specs.Edges.{edges}
use Rattle.neighbours.specs.between.Grown.{part_of}
use Rattle.neighbours.proofs.Rows.{row-add, rows_none, rows-up, length-table}

one : (b : Bool) (x y : ℕ) → length (cond b (x ∷ []) []) ≡ length (cond b (y ∷ []) [])
one true x y = refl
one false x y = refl

module _ (f : ℕ → ℕ → Bool) where
  -- the ends below v of edges that have v as the greater
  abbrev lesser : ℕ → List ℕ
  lesser v = keep (λ u. f u v) (up_to v)

  -- one vertex more stands in the rows of those next to it
  column : (n k : ℕ) → length (first_rows (neighbour_row f (n + 1)) k) ≡ length (first_rows (neighbour_row f n) k) + length (keep (λ u. next_to f u n) (up_to k))
  unfolding keep
  column n zero = omega (arith, ap length (rows_none (neighbour_row f (n + 1))), ap length (rows_none (neighbour_row f n)))
  column n (suc k) =
      let p : ℕ → Bool = λ u. next_to f u n in
      let a = rows-up (neighbour_row f (n + 1)) k in
      let b = rows-up (neighbour_row f n) k in
      let c = ap length (row-add f k n 1) ∙ length-append (neighbour_row f n k) (part_of f k n 1) in
      let d = ap (λ l. length (keep p l)) (ap up_to (sym (add-one k)) ∙ up_to-more k) ∙ ap length (keep_append p (up_to k) (k ∷ [])) ∙ length-append (keep p (up_to k)) (keep p (k ∷ [])) in
      rw (sym (add-one k)) (omega (arith, a, b, c, d, column n k, one (next_to f k n) n k))

  -- those below it
  column_lesser : (n : ℕ) → keep (λ u. next_to f u n) (up_to n) ≡ lesser n
  column_lesser n = keep_same (λ u. next_to f u n) (λ u. f u n) 0 n (λ u h. ap (λ b. not b && f u n) (ne_eqb u n (omega arith)))

  module _ (same : (u v : ℕ) → f u v ≡ f v u) where
    -- and its own row has the same
    row-lesser : (n : ℕ) → length (neighbour_row f (n + 1) n) ≡ length (lesser n)
    unfolding neighbour_row keep
    row-lesser n =
        let a = ap length (row-add f n n 1) ∙ length-append (neighbour_row f n n) (part_of f n n 1) in
        let b : length (part_of f n n 1) ≡ 0 = rw (eq-eqb n n refl) in
        let c = ap length (keep_same (next_to f n) (λ u. f u n) 0 n (λ u h. ap (λ b. not b && f n u) (ne_eqb n u (omega arith)) ∙ same n u)) in
        omega (arith, a, b, c)

    twice : (n : ℕ) → length (first_rows (neighbour_row f n) n) ≡ 2 * length (first_rows lesser n)
    twice zero = omega (arith, ap length (rows_none (neighbour_row f 0)), ap length (rows_none lesser))
    twice (suc n) =
        rw (sym (add-one n)) (omega (arith, twice n, rows-up (neighbour_row f (n + 1)) n, rows-up lesser n, column n n, ap length (column_lesser n), row-lesser n))

together-same : (m : Mesh) (u v : ℕ) → together m (u ∷ v ∷ []) ≡ together m (v ∷ u ∷ [])
unfolding together
together-same m u v = ap (λ p. any p m.tets) (fun_ext (λ e. both (is_in u e.vertices) (is_in v e.vertices)))
  where
    both : (a b : Bool) → (a && (b && true)) ≡ (b && (a && true))
    both a b = ap (λ c. a && c) (and-true b) ∙ and_comm a b ∙ ap (λ c. b && c) (sym (and-true a))

-- the length of the neighbour table by the number of edges
pub table-edges : (m : Mesh) (n : ℕ) → length (table_of m n) ≡ n + 1 + 2 * edges m n
unfolding table_of neighbours_of edges first_rows
table-edges m n =
    length-table (neighbours_of m n) n ∙ ap (λ k. n + 1 + k) (twice (λ u v. together m (u ∷ v ∷ [])) (together-same m) n)

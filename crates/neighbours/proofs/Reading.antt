-- What stands where in a neighbour table, whatever follows it. Assumes nothing.
use mathlib.Core.Path.{◌≡◌, refl, sym, ◌∙◌, ap, subst}
use mathlib.Core.Bool.{true, false}
use mathlib.Core.List.{List, [], ◌∷◌, ◌++◌, map, append_assoc}
use Prim.Native.Nat.{ℕ, suc, ◌+◌, ◌-◌, ◌≤◌, ◌<◌}
use native.Mathlib.Nat.{zero-add}
use native.Mathlib.Omega.{arith}
use native.Mathlib.Decide.{dec_lt}
use borrow.Author.Tests.{lt-ltb, le-ltb}
use lib.Dec.{eqb}
use lib.ListN.{length, get_or, take, drop, length-append, length-drop, get_or-append}
use lib.Seq.{drop_at, take_at, get_or_at, get_or-drop, get_or-take, length-take-le}
use Rattle.base.specs.Lists.{spread, from, up_to}
use Rattle.base.proofs.Runs.{from-add, spread-append, map-append, place_of, kept-rises}
use Rattle.base.proofs.Members.{keep-has, from-has}
use Rattle.tets_around.specs.Sharing.{together_in}
use Rattle.tets_around.specs.declared.Row.{Row}
use Rattle.neighbours.specs.Table.{neighbour_row, first_rows, offsets, table_by}
use Rattle.neighbours.specs.between.InLabels.{neighbours_in, table_in}
use Rattle.matrix.specs.between.Matrix.{next_to}
use Rattle.neighbours.specs.between.Reading.{Tabled, Rowed, NeighbourRow, row_in, entries_of, InRow}
use Rattle.neighbours.proofs.Rows.{offs, offs_all, length_offs, rows_more, rows-up, rows-le, length-table}

module _ (row : ℕ → List ℕ) (n : ℕ) (rest : List ℕ) where
  abbrev table : List ℕ
  table = table_by row n ++ rest

  length-offsets : length (offsets row n) ≡ n + 1
  length-offsets = ap length (sym (offs_all row n)) ∙ length_offs row (n + 1)

  -- the offset of a row
  pub offset_at : (u : ℕ) → u ≤ n → get_or table u 0 ≡ length (first_rows row u)
  unfolding table_by
  offset_at u h =
      let e : n + 1 ≡ u + suc (n - u) = omega arith in
      let f : ℕ → ℕ = λ v. length (first_rows row v) in
      let s : offsets row n ≡ offs row u ++ f (0 + u) ∷ map f (from (suc (0 + u)) (n - u)) =
      sym (offs_all row n) ∙ ap (offs row) e ∙ ap (map f) (from-add 0 u (suc (n - u))) ∙ map-append f (up_to u) (from (0 + u) (suc (n - u))) in
      ap (λ l. get_or l u 0) (append_assoc (offsets row n) (first_rows row n) rest ∙ ap (λ l. l ++ (first_rows row n ++ rest)) s
      ∙ append_assoc (offs row u) (f (0 + u) ∷ map f (from (suc (0 + u)) (n - u))) (first_rows row n ++ rest))
      ∙ get_or_at (offs row u) (f (0 + u)) _ 0 u (length_offs row u) ∙ ap f (zero-add u)

  -- what follows the offsets and the rows before u begins with row u
  rows-from : (u : ℕ) → u < n → (r : List ℕ) × (drop (n + 1 + length (first_rows row u)) table ≡ row u ++ r)
  unfolding table_by first_rows spread
  rows-from u h =
      let e : n ≡ u + 1 + (n - u - 1) = omega arith in
      let w = spread row (from (0 + (u + 1)) (n - u - 1)) in
      let s : first_rows row n ≡ first_rows row u ++ row u ++ w =
      ap (first_rows row) e ∙ ap (spread row) (from-add 0 (u + 1) (n - u - 1)) ∙ spread-append row (up_to (u + 1)) (from (0 + (u + 1)) (n - u - 1)) ∙ ap (λ l. l ++ w) (rows_more row u) in
      let p = offsets row n ++ first_rows row u in
      let t : offsets row n ++ (first_rows row u ++ row u ++ w) ++ rest ≡ p ++ (row u ++ (w ++ rest)) = simp append_assoc in (
        w ++ rest,
        ap (drop (n + 1 + length (first_rows row u)))
            (ap (λ l. offsets row n ++ l ++ rest) s ∙ t)
            ∙ drop_at p (row u ++ (w ++ rest)) (n + 1 + length (first_rows row u)) (length-append (offsets row n) (first_rows row u) ∙ ap (λ k. k + length (first_rows row u)) length-offsets),
      )

  -- the row, as a part of the table
  pub row_at : (u : ℕ) → u < n → take (length (row u)) (drop (n + 1 + length (first_rows row u)) table) ≡ row u
  row_at u h = let d = rows-from u h in ap (take (length (row u))) d.1 ∙ take_at (row u) d.0 (length (row u)) refl

  -- one of its entries
  pub entry_at : (u i : ℕ) → u < n → i < length (row u) → get_or table (n + 1 + length (first_rows row u) + i) 0 ≡ get_or (row u) i 0
  entry_at u i h k =
      let d = rows-from u h in
      sym (get_or-drop (n + 1 + length (first_rows row u)) table i 0) ∙ ap (λ l. get_or l i 0) d.1 ∙ get_or-append (row u) d.0 0 i k

-- a slice that begins with the table
module _ {ls : List ℕ} {n : ℕ} {xs : List ℕ} (d : Tabled ls n xs) where
  split : xs ≡ table_by (neighbours_in ls n) n ++ d.rest
  unfolding table_in
  split = d.is

  long : n + 1 + length (first_rows (neighbours_in ls n) n) ≤ length xs
  long =
      omega (arith, ap length split, length-append (table_by (neighbours_in ls n) n) d.rest, length-table (neighbours_in ls n) n)

  pub starts : (u : ℕ) → u ≤ n → get_or xs u 0 ≡ length (first_rows (neighbours_in ls n) u)
  starts u h = ap (λ l. get_or l u 0) split ∙ offset_at (neighbours_in ls n) n d.rest u h

  -- the row between two offsets
  row_between : (v s e : ℕ) → v < n → s ≡ get_or xs v 0 → e ≡ get_or xs (v + 1) 0 → NeighbourRow ls n xs v (record { from = n + 1 + s; size = e - s })
  row_between v s e h p q =
      let row = neighbours_in ls n in
      let a : s ≡ length (first_rows row v) = p ∙ starts v (omega arith) in
      let b : e ≡ length (first_rows row (v + 1)) = q ∙ starts (v + 1) (omega arith) in
      let z : e - s ≡ length (row v) = omega (arith, rows-up row v) in
      record {
        inside = omega (arith, long, rows-up row v, rows-le row (v + 1) n (omega arith));
        empty = λ l. absurd (let o : ⊥ = omega arith in o);
        whole = λ l. z;
        entries = λ l i k. ap (λ j. get_or xs (n + 1 + j + i) 0) a ∙ ap (λ t. get_or t (n + 1 + length (first_rows row v) + i) 0) split ∙ entry_at row n d.rest v i h (omega arith);
      }

  row-in : (v : ℕ) → NeighbourRow ls n xs v (row_in n xs v)
  unfolding row_in
  row-in v = elim (dec_lt v n) [
    | yes h ↦ rw (lt-ltb v n h) (row_between v (get_or xs v 0) (get_or xs (v + 1) 0) h refl refl)
    | no h ↦
        rw (le-ltb v n (omega arith)) record {
          inside = omega arith;
          empty = λ l. refl;
          whole = λ l. absurd (h l);
          entries = λ l. absurd (h l);
        }
  ]

  pub row_of_in : (v : ℕ) {r : Row} → r ≡ row_in n xs v → NeighbourRow ls n xs v r
  row_of_in v e = subst (NeighbourRow ls n xs v) (sym e) (row-in v)

  pub tabled-rowed : Rowed n xs
  tabled-rowed =
      let row = neighbours_in ls n in
      record {
        rise = λ v h. omega (arith, starts v (omega arith), starts (v + 1) (omega arith), rows-up row v);
        within = λ v h. omega (arith, long, starts (v + 1) (omega arith), rows-le row (v + 1) n (omega arith));
      }

-- a row that the offsets tell lies within the table
module _ {n : ℕ} {table : List ℕ} (w : Rowed n table) where
  pub row_inside : (v : ℕ) → (row_in n table v).from + (row_in n table v).size ≤ length table
  unfolding row_in
  row_inside v = elim (dec_lt v n) [
    | yes h ↦ rw (lt-ltb v n h) (omega (arith, w.rise v h, w.within v h))
    | no h ↦ rw (le-ltb v n (omega arith)) (omega arith)
  ]

-- the row of u: it rises, and every other vertex below n that stands with u in a tetrahedron is in it
module _ (ls : List ℕ) (n u : ℕ) where
  pub row-rises : (i j : ℕ) → i < j → j < length (neighbours_in ls n u) → get_or (neighbours_in ls n u) i 0 < get_or (neighbours_in ls n u) j 0
  unfolding neighbours_in neighbour_row
  row-rises i j = kept-rises (next_to (λ u v. together_in ls (u ∷ v ∷ [])) u) 0 n i j

  pub row_has : (v : ℕ) → v < n → eqb u v ≡ false → together_in ls (u ∷ v ∷ []) ≡ true → (i : ℕ) × (i < length (neighbours_in ls n u)) × (get_or (neighbours_in ls n u) i 0 ≡ v)
  unfolding neighbours_in neighbour_row
  row_has v l e t =
      place_of (neighbours_in ls n u)
      (keep-has (next_to (λ u v. together_in ls (u ∷ v ∷ [])) u) (up_to n) (from-has 0 n v (omega arith) (omega arith)) (rw (e, t)))

-- the same of the entries that stand in the table
module _ {ls : List ℕ} {n : ℕ} {table : List ℕ} {u : ℕ} {r : Row} (w : NeighbourRow ls n table u r) where
  size : length (entries_of table r) ≡ r.size
  size =
      length-take-le (r.from + r.size - r.from) (drop r.from table) (omega (arith, w.inside, length-drop r.from table))
      ∙ omega arith

  entry : u < n → (i : ℕ) → i < length (neighbours_in ls n u) → get_or (entries_of table r) i 0 ≡ get_or (neighbours_in ls n u) i 0
  entry b i e =
      get_or-take (r.from + r.size - r.from) (drop r.from table) i 0 (omega (arith, w.whole b))
      ∙ get_or-drop r.from table i 0 ∙ w.entries b i (omega (arith, w.whole b))

  pub entries-rise : (i j : ℕ) → i < j → j < length (entries_of table r) → get_or (entries_of table r) i 0 < get_or (entries_of table r) j 0
  entries-rise i j a b = elim (dec_lt u n) [
    | yes l ↦
        let z = row-rises ls n u i j a (omega (arith, b, size, w.whole l)) in
        omega (arith, z, entry l i (omega (arith, a, b, size, w.whole l)), entry l j (omega (arith, b, size, w.whole l)))
    | no l ↦ absurd (let o : ⊥ = omega (arith, b, size, w.empty (omega arith)) in o)
  ]

  pub entries_have : {v : ℕ} → u < n → v < n → eqb u v ≡ false → together_in ls (u ∷ v ∷ []) ≡ true → InRow table r v
  entries_have {v} l h z t =
      let f = row_has ls n u v h z t in
      record { place = f.0; before = omega (arith, f.1, size, w.whole l); is = entry l f.0 f.1 ∙ f.2 }

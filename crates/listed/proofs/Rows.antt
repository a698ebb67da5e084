-- A vertex that stands in a tetrahedron with two others makes a facet with them,
-- as far as the neighbour table and the hints tell.
-- Assumes nothing.
use Prim.Native.Nat.{ℕ, ◌+◌, ◌*◌, ◌/◌, ◌<◌}
use mathlib.Core.Path.{◌≡◌, refl, sym}
use mathlib.Core.Logic.{◌⊎◌, inl, inr}
use mathlib.Core.Bool.{Bool, true, false}
use mathlib.Core.List.{List, [], ◌∷◌, Memᴰ}
use native.Mathlib.Omega.{arith}
use borrow.Author.Tests.{ltb-true, lt-ltb, eqb-true, eqb-false, ne_eqb}
use lib.Dec.{eqb, ltb}
use lib.ListN.{length, get_or}
use Rattle.base.specs.Lists.{all, up_to, is_in}
use Rattle.base.proofs.Lists.{both_left, both_right, all-at, any_at}
use Rattle.base.proofs.Members.{from_at}
use Rattle.space.specs.Arrays.{row4}
use Rattle.tets_around.specs.between.Index.{Labelled}
use Rattle.tets_around.specs.Sharing.{has_all, together_in}
use Rattle.templates.proofs.Tests.{any-from}
use Rattle.neighbours.specs.between.Reading.{Tabled, row_in, InRow}
use Rattle.neighbours.proofs.Reading.{row_of_in, entries_have}
use Rattle.facet_hints.specs.between.Hints.{HintsOf}
use Rattle.reaching.specs.between.Reaching.{Faces}

module _ {ls : List ℕ} {n : ℕ} (w : Labelled ls n) where
  all-below : (i : ℕ) → i < length ls / 4 → all (λ y. ltb y n) (row4 ls i) ≡ true
  all-below i h =
      let f : (k : ℕ) → k < 4 * i + 4 → ltb (get_or ls k 0) n ≡ true = λ k l. lt-ltb _ n (w.below k (omega (arith, w.whole))) in
      rw (f (4 * i) (omega arith), f (4 * i + 1) (omega arith), f (4 * i + 2) (omega arith), f (4 * i + 3) (omega arith))

  -- a vertex of a tetrahedron is below n
  held_below : (i : ℕ) → Memᴰ i (up_to (length ls / 4)) → (v : ℕ) → is_in v (row4 ls i) ≡ true → v < n
  held_below i m v h =
      let x = any_at (eqb v) (row4 ls i) h in
      let l = ltb-true x.0 n (all-at (λ y. ltb y n) (row4 ls i) (all-below i (omega (arith, (from_at 0 (length ls / 4) m).1))) x.1) in
      omega (arith, l, eqb-true v x.0 x.2)

module _ {ls : List ℕ} {n : ℕ} {table hs : List ℕ} (labelled : Labelled ls n) (tabled : Tabled ls n table) (hinted : HintsOf ls hs) where
  -- two vertices of one tetrahedron: the one stands in the other's row
  in_row : (i : ℕ) → Memᴰ i (up_to (length ls / 4)) → (a v : ℕ) → is_in a (row4 ls i) ≡ true → is_in v (row4 ls i) ≡ true → eqb v a ≡ false → InRow table (row_in n table a) v
  in_row i m a v p q z =
      let small = held_below labelled i m in
      entries_have (row_of_in tabled a refl) (small a p) (small v q) (ne_eqb a v (λ y. eqb-false v a z (sym y))) (any-from (has_all ls (a ∷ v ∷ [])) (up_to (length ls / 4)) m (rw (p, q)))

  -- of three vertices of one tetrahedron, the third stands in the rows of the others
  in_rows : (u x v : ℕ) → together_in ls (u ∷ x ∷ v ∷ []) ≡ true → eqb v u ≡ false → eqb v x ≡ false → InRow table (row_in n table u) v × InRow table (row_in n table x) v
  in_rows u x v t p q =
      let f = any_at (has_all ls (u ∷ x ∷ v ∷ [])) (up_to (length ls / 4)) t in
      let e = row4 ls f.0 in
      let h = both_right (is_in u e) _ f.2 in
      let i = both_left (is_in v e) _ (both_right (is_in x e) _ h) in
      (in_row f.0 f.1 u v (both_left (is_in u e) _ f.2) i p, in_row f.0 f.1 x v (both_left (is_in x e) _ h) i q)

  pub facet-faces : (u x v : ℕ) → together_in ls (u ∷ x ∷ v ∷ []) ≡ true → eqb v u ≡ false → Faces n table hs u x v
  facet-faces u x v t p = record { hint = hinted.facets u x v t; stands = go (eqb v x) refl }
    where
      go : (b : Bool) → eqb v x ≡ b → (v ≡ x) ⊎ (InRow table (row_in n table u) v × InRow table (row_in n table x) v)
      go true e = inl (eqb-true v x e)
      go false e = inr (in_rows u x v t p e)

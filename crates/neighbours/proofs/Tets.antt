-- The neighbours by the matrix, by the labels and of a mesh in arrays are the same. Assumes nothing.
use mathlib.Core.Path.{◌≡◌, refl, sym, ◌∙◌, ap, fun_ext}
use mathlib.Core.Bool.{Bool, true, false, ◌&&◌, ◌||◌, and-true, and_comm}
use mathlib.Core.List.{List, [], ◌∷◌}
use Prim.Native.Nat.{ℕ, zero, suc, ◌+◌, ◌*◌, ◌/◌}
use native.Mathlib.Numerals.{add-one}
use lib.Dec.{eqb}
use lib.IntN.{ℤ}
use lib.ListN.{length, get_or}
use Rattle.base.specs.Lists.{any, is_in, up_to}
use Rattle.base.proofs.Runs.{any_snoc, up_to-more}
use Rattle.space.specs.Arrays.{row4, mesh_of}
use Rattle.tets_around.specs.Sharing.{has_all}
use Rattle.tets_around.proofs.Around.{together-in}
use Rattle.neighbours.specs.Table.{neighbour_row, table_by, neighbours_of, table_of}
use Rattle.neighbours.specs.between.InLabels.{neighbours_in, table_in}
use Rattle.matrix.specs.between.Matrix.{joined_by, is_vertex_of}

four : (a b c d : Bool) → (a || (b || (c || (d || false)))) ≡ (((a || b) || c) || d)
four true b c d = refl
four false true c d = refl
four false false true d = refl
four false false false true = refl
four false false false false = refl

same : (l : List ℕ) (i u v : ℕ) → has_all l (u ∷ v ∷ []) i ≡ (is_vertex_of l i v && is_vertex_of l i u)
same l i u v =
    ap (λ t. is_in u (row4 l i) && t) (and-true (is_in v (row4 l i)))
    ∙ and_comm (is_in u (row4 l i)) (is_in v (row4 l i))
    ∙ ap (λ t. t && is_in u (row4 l i)) (four (eqb v (get_or l (4 * i) 0)) (eqb v (get_or l (4 * i + 1) 0)) (eqb v (get_or l (4 * i + 2) 0)) (eqb v (get_or l (4 * i + 3) 0)))
    ∙ ap (λ t. is_vertex_of l i v && t) (four (eqb u (get_or l (4 * i) 0)) (eqb u (get_or l (4 * i + 1) 0)) (eqb u (get_or l (4 * i + 2) 0)) (eqb u (get_or l (4 * i + 3) 0)))

near-any : (l : List ℕ) (t u v : ℕ) → joined_by l t u v ≡ any (has_all l (u ∷ v ∷ [])) (up_to t)
unfolding joined_by
near-any l zero u v = refl
near-any l (suc t) u v =
    ap (λ b. b || (is_vertex_of l t v && is_vertex_of l t u)) (near-any l t u v)
    ∙ ap (λ b. any (has_all l (u ∷ v ∷ [])) (up_to t) || b) (sym (same l t u v))
    ∙ sym (any_snoc (has_all l (u ∷ v ∷ [])) (up_to t) t)
    ∙ ap (any (has_all l (u ∷ v ∷ []))) (sym (up_to-more t) ∙ ap up_to (add-one t))

module _ (l : List ℕ) (n : ℕ) where
  pub near-row : neighbour_row (joined_by l (length l / 4)) n ≡ neighbours_in l n
  unfolding neighbours_in
  near-row = ap (λ f. neighbour_row f n) (fun_ext (λ u. fun_ext (near-any l (length l / 4) u)))

  pub near-table : table_by (neighbour_row (joined_by l (length l / 4)) n) n ≡ table_in l n
  unfolding table_in
  near-table = ap (λ r. table_by r n) near-row

  -- the table of a mesh in arrays is that of its tetrahedra's vertex numbers
  pub table-in : (zs : List ℤ) (ps : List ℕ) → table_of (mesh_of zs l ps) n ≡ table_in l n
  unfolding table_of table_in neighbours_of neighbours_in
  table-in zs ps =
      ap (λ f. table_by (neighbour_row f n) n) (fun_ext (λ u. fun_ext (λ v. together-in zs l ps (u ∷ v ∷ []))))

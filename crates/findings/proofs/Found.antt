-- What is found by a mesh's arrays is what is found of the mesh.
-- Assumes nothing.
use Prim.Native.Nat.{ℕ, ◌/◌}
use mathlib.Core.Path.{◌≡◌, refl, sym, ◌∙◌, ap, fun_ext}
use mathlib.Core.Bool.{Bool, true, false, cond, ◌&&◌}
use mathlib.Core.List.{List}
use native.Mathlib.Omega.{arith}
use lib.Dec.{eqb, ltb}
use lib.IntN.{ℤ}
use lib.ListN.{length}
use Rattle.base.specs.Lists.{all, up_to, distinct}
use Rattle.base.proofs.Lists.{both_right}
use Rattle.base.proofs.Loop.{length_up}
use Rattle.space.specs.Box.{is_above0}
use Rattle.space.specs.Mesh.{Mesh}
use Rattle.space.specs.Arrays.{point_at, mesh_of}
use Rattle.tets_around.specs.Sharing.{together_in}
use Rattle.tets_around.proofs.Around.{together-in}
use Rattle.templates.specs.Tables.{Template, template_of, tuple_of, is_kind, at}
use Rattle.least.specs.Least.{is_least}
use Rattle.turning.specs.Form.{form_by, least_form}
use Rattle.cells.specs.Cells.{inside, box_of, box_at, is_tuple, is_facet, first_failing}
use Rattle.cells.specs.between.Rows.{points_of, facet_in}
use Rattle.cells.proofs.InArrays.{sides-in}
use Rattle.reasons.specs.declared.Finding.{Finding}
use Rattle.reasons.specs.declared.Finding.TheVariants.{BadCorner, NoEdge, NoFace, BadBox, TwoParts}
use Rattle.reasons.specs.First.{first_fail}
use Rattle.reasons.specs.Reason.{is_new, faces, is_there, others, cell_by, turned_by, least_turn, found_cell, found_open, finding_at}
use Rattle.open_triples.specs.between.Best.{open_by}
use Rattle.findings.specs.between.Numbers.{form_numbers}

-- ---- conditions 1 to 6

module _ (zs : List ℤ) (ls ps : List ℕ) (t : Template) (c : List ℕ) where
  pub corner-found : {i k : ℕ} → k ≡ 1 → i ≡ first_fail (is_new (length zs / 3) c) (up_to t.corners) → BadCorner i ≡ finding_at (mesh_of zs ls ps) t c k
  unfolding finding_at
  corner-found q e = rw q (ap BadCorner (e ∙ ap (λ n. first_fail (is_new n c) (up_to t.corners)) (sym (length_up (point_at zs) (length zs / 3)))))

  pub edge-found : {i k : ℕ} → k ≡ 2 → i ≡ first_fail (λ ks. together_in ls (at c ks)) t.edges → NoEdge i ≡ finding_at (mesh_of zs ls ps) t c k
  unfolding finding_at
  edge-found q e = rw q (ap NoEdge (e ∙ ap (λ (j : List ℕ → Bool). first_fail (λ ks. j (at c ks)) t.edges) (sym (fun_ext (together-in zs ls ps)))))

  pub face_found : {i k : ℕ} → k ≡ 3 → i ≡ first_fail (is_there (facet_in ls c)) (faces t) → NoFace i ≡ finding_at (mesh_of zs ls ps) t c k
  unfolding finding_at is_facet
  face_found q e = rw q (ap NoFace (e ∙ ap (λ (j : List ℕ → Bool). first_fail (is_there (λ ks. j (at c ks))) (faces t)) (sym (fun_ext (together-in zs ls ps)))))

  pub box-found : {i k : ℕ} → k ≡ 4 → i ≡ first_fail (λ ks. is_above0 (box_of (points_of zs) (at c ks))) t.triples → BadBox i ≡ finding_at (mesh_of zs ls ps) t c k
  unfolding finding_at box_at
  box-found q e = rw q (ap BadBox e)

  pub open-found : {w : Finding} {k : ℕ} → k ≡ 5 → w ≡ open_by ls c t.triangles t.quads (inside t) → w ≡ finding_at (mesh_of zs ls ps) t c k
  unfolding finding_at
  open-found q e = rw q (e ∙ ap (λ g. found_open g c (faces t) (others g (inside t) t.quads)) (sym (fun_ext (sides-in zs ls ps t c))))

  pub parts-found : {k : ℕ} → k ≡ 6 → TwoParts ≡ finding_at (mesh_of zs ls ps) t c k
  unfolding finding_at
  parts-found q = rw q refl

-- ---- a cell

-- a tuple of which no condition fails has distinct corners
none_first : (b : Bool) (x : ℕ) → cond b x 1 ≡ 0 → b ≡ true
none_first true x e = refl
none_first false x e = absurd (let z : ⊥ = omega arith in z)

pub sound-distinct : (m : Mesh) (t : Template) (c : List ℕ) → first_failing m t c ≡ 0 → distinct c ≡ true
unfolding first_failing is_tuple
sound-distinct m t c e = both_right (eqb (length c) t.corners && all (λ v. ltb v (length m.points)) c) _ (none_first (is_tuple m t c) _ e)

-- a cell, by its least form's numbers
pub told-cell : (k : ℕ) (vs : List ℕ) → is_kind k ≡ true → distinct (tuple_of k vs) ≡ true → let x = form_numbers (least_form k vs) in cond (is_least (template_of k) (tuple_of k vs)) (cell_by x) (turned_by x) ≡ found_cell (template_of k) (tuple_of k vs)
unfolding least_form form_by found_cell least_turn
told-cell k vs e d = rw (e, d)

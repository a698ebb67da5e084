-- A mesh in arrays: each condition of it, with any template, by the arrays that the condition looks at.
-- Assumes nothing.
use mathlib.Core.Path.{◌≡◌, refl, ◌∙◌, ap, fun_ext}
use mathlib.Core.Bool.{Bool, cond}
use mathlib.Core.List.{List, ◌∷◌, map}
use Prim.Native.Nat.{ℕ, zero, suc, ◌/◌}
use lib.Dec.{eqb}
use lib.IntN.{ℤ}
use lib.ListN.{length, get_or}
use Rattle.base.specs.Lists.{all, keep, from, up_to}
use Rattle.base.proofs.Lists.{keep-map}
use Rattle.base.proofs.Loop.{length_up}
use Rattle.space.specs.Mesh.{Mesh, Tetrahedron, holds}
use Rattle.space.specs.Arrays.{point_at, row4, tet_at, mesh_of}
use Rattle.tets_around.specs.Sharing.{together_in}
use Rattle.tets_around.proofs.Around.{together-in, all_map, count_map}
use Rattle.templates.specs.Tables.{Template, at}
use Rattle.cells.specs.Cells.{are_corners, all_joined, all_faces, boxes_above, box_of, box_at, sides_of, fills, all_agree, is_tuple, has_edges, is_facet, has_faces, is_sound, belongs, tets_of, numbers_from, numbers_of, sides, is_filled_by, is_one_part}
use Rattle.cells.specs.between.Rows.{points_of, facet_in, owns, own_numbers}

module _ (zs : List ℤ) (ls ps : List ℕ) where
  module _ (t : Template) (c : List ℕ) where
    abbrev m : Mesh
    m = mesh_of zs ls ps

    abbrev numbers : List ℕ
    numbers = own_numbers ls t.quads c

    pub tuple_in : is_tuple (mesh_of zs ls ps) t c ≡ are_corners (length zs / 3) t.corners c
    unfolding is_tuple
    tuple_in = ap (λ n. are_corners n t.corners c) (length_up (point_at zs) (length zs / 3))

    pub edges_in : has_edges (mesh_of zs ls ps) t c ≡ all_joined (together_in ls) c t.edges
    unfolding has_edges
    edges_in = ap (λ j. all_joined j c t.edges) (fun_ext (together-in zs ls ps))

    pub faces_in : has_faces (mesh_of zs ls ps) t c ≡ all_faces (facet_in ls c) t.triangles t.quads
    unfolding has_faces is_facet
    faces_in = ap (λ (j : List ℕ → Bool). all_faces (λ ks. j (at c ks)) t.triangles t.quads) (fun_ext (together-in zs ls ps))

    pub sound_in : is_sound (mesh_of zs ls ps) t c ≡ boxes_above (box_of (points_of zs)) c t.triples
    unfolding is_sound box_at
    sound_in = refl

    -- its tetrahedra, by their numbers
    numbers-from : (f : ℕ → Tetrahedron) (k i : ℕ) → numbers_from m t c i (map f (from i k)) ≡ keep (λ j. belongs m t c (f j)) (from i k)
    unfolding numbers_from keep
    numbers-from f zero i = refl
    numbers-from f (suc k) i = ap (λ r. cond (belongs m t c (f i)) (i ∷ r) r) (numbers-from f k (suc i))

    pub numbers_in : numbers_of (mesh_of zs ls ps) t c ≡ own_numbers ls t.quads c
    unfolding numbers_of own_numbers owns belongs
    numbers_in = numbers-from (tet_at ls ps) (length ls / 4) 0

    tets_in : tets_of m t c ≡ map (tet_at ls ps) numbers
    unfolding tets_of own_numbers owns belongs
    tets_in = keep-map (belongs m t c) (tet_at ls ps) (up_to (length ls / 4))

    pub sides-in : (ks : List ℕ) → sides m t c ks ≡ sides_of (row4 ls) numbers c ks
    unfolding sides
    sides-in ks = ap (λ es. sides_of (λ e. e.vertices) es c ks) tets_in ∙ count_map (tet_at ls ps) (holds (at c ks)) numbers

    pub filled_in : (ws : List (List ℕ)) → is_filled_by (mesh_of zs ls ps) t c ws ≡ fills (sides_of (row4 ls) (own_numbers ls t.quads c) c) t.triangles t.quads ws
    unfolding is_filled_by
    filled_in ws = ap (λ g. fills g t.triangles t.quads ws) (fun_ext sides-in)

    pub part_in : is_one_part (mesh_of zs ls ps) t c ≡ all_agree (λ i. get_or ps i 0) (own_numbers ls t.quads c)
    unfolding is_one_part
    part_in =
        ap (all_agree (λ (e : Tetrahedron). e.part)) tets_in
        ∙ all_map (tet_at ls ps) (λ d. all (λ e. eqb d.part e.part) (map (tet_at ls ps) numbers)) numbers
        ∙ ap (λ p. all p numbers) (fun_ext (λ i. all_map (tet_at ls ps) (λ e. eqb (get_or ps i 0) e.part) numbers))

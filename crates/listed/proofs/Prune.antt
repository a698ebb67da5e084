-- A tuple that is listed passes the test of every level: pruning leaves out no cell.
-- Assumes nothing.
use Prim.Native.Nat.{ℕ, zero, suc, ◌+◌, ◌<◌}
use mathlib.Core.Path.{◌≡◌, refl, sym, ◌∙◌, ap, ap₂, fun_ext}
use mathlib.Core.Bool.{Bool, true, false, cond, not, ◌&&◌, ◌||◌, false≢true}
use mathlib.Core.List.{List, [], ◌∷◌, ◌++◌, append_assoc, append-nil}
use native.Mathlib.Omega.{arith}
use borrow.Author.Tests.{ltb-true}
use lib.Dec.{eqb, ltb}
use lib.IntN.{ℤ}
use lib.ListN.{length, get_or, take}
use Rattle.base.specs.Lists.{all, up_to, is_in}
use Rattle.base.proofs.Lists.{both_left, both_right, all-at, all_from}
use Rattle.base.proofs.Loop.{get_or-up}
use Rattle.base.proofs.Members.{from_at}
use Rattle.space.specs.Mesh.{Mesh, together}
use Rattle.space.specs.Box.{is_above0}
use Rattle.space.specs.Arrays.{mesh_of}
use Rattle.tets_around.specs.Sharing.{together_in}
use Rattle.tets_around.proofs.Around.{together-in}
use Rattle.templates.specs.Tables.{Template, Placing, placing, hexahedron, prism, pyramid, template_of, at}
use Rattle.cells.specs.Cells.{one_diagonal, other_diagonal, splits, box_of, boxes_above, box_at, has_edges, is_facet, is_split, has_faces, is_cell}
use Rattle.cells.specs.Full.{allowed}
use Rattle.cells.specs.between.Rows.{points_of}
use Rattle.cells.proofs.Conditions.{Conditions, cell_meets, sound_boxes}
use Rattle.facet_hints.specs.between.Hints.{HintsOf, both_hinted, split_at, hinted_facet, hinted_at, faces_hinted}
use Rattle.portions.specs.between.Tuples.{front, Agree}
use Rattle.rule.specs.between.Leaf.{placed_after, is_leaf}
use Rattle.rule.proofs.OneKind.{Flat, flat-hexahedron, flat-prism, flat-pyramid, leaf_goes}
use Rattle.levels.specs.between.Levels.{base, lesser, level_triangles, level_quads, level_triples}
use Rattle.levels.specs.between.Passing.{is_new_above, passes_level}
use Rattle.levels.proofs.Fresh.{take-run}
use Rattle.levels.proofs.Right.{Right, right_at, run-same, at_row, row_sizes, vertex-same, row_same, rows_pass}

-- ── least form, place by place ──

-- what is allowed at place d
module _ (n : ℕ) where
  pub goes_at : (ps : List Placing) (s u : List ℕ) → placed_after n ps s u ≡ true → (d : ℕ) → d < length ps → (get_or u d 0 < n) × (allowed (get_or ps d (placing [] [])) (s ++ take d u) (get_or u d 0) ≡ true)
  unfolding placed_after
  goes_at [] s u e d h = absurd (omega arith)
  goes_at (p ∷ ps) s [] e d h = absurd (false≢true e)
  goes_at (p ∷ ps) s (v ∷ u) e zero h =
      (ltb-true v n (both_left (ltb v n) _ e), ap (λ l. allowed p l v) (append-nil s) ∙ both_left (allowed p s v) _ (both_right (ltb v n) _ e))
  goes_at (p ∷ ps) s (v ∷ u) e (suc d) h =
      let r = goes_at ps (s ++ (v ∷ [])) u (both_right (allowed p s v) _ (both_right (ltb v n) _ e)) d (omega arith) in
      (r.0, ap (λ l. allowed (get_or ps d (placing [] [])) l (get_or u d 0)) (sym (append_assoc s (v ∷ []) (take d u))) ∙ r.1)

pub flat-at : (k : ℕ) → Flat (template_of k)
flat-at k = go (eqb k 8) (eqb k 6)
  where
    go : (a b : Bool) → Flat (cond a hexahedron (cond b prism pyramid))
    go true b = flat-hexahedron
    go false true = flat-prism
    go false false = flat-pyramid

-- ── the mesh by its arrays ──

-- a quadrilateral of four vertices is split, where b says which triangles are facets
abbrev split_by : (List ℕ → Bool) → ℕ → ℕ → ℕ → ℕ → Bool
split_by b w x y z =
    all b ((w ∷ x ∷ y ∷ []) ∷ (w ∷ y ∷ z ∷ []) ∷ []) || all b ((w ∷ x ∷ z ∷ []) ∷ (x ∷ y ∷ z ∷ []) ∷ [])

-- ── the hints ──

or_imp : (a b c d : Bool) → (a ≡ true → c ≡ true) → (b ≡ true → d ≡ true) → (a || b) ≡ true → (c || d) ≡ true
or_imp true b c d f g e = rw (f refl)
or_imp false b true d f g e = refl
or_imp false b false d f g e = g e

module _ {ls hs : List ℕ} (g : HintsOf ls hs) where
  both-hinted : (u v w x y z : ℕ) → all (together_in ls) ((u ∷ v ∷ w ∷ []) ∷ (x ∷ y ∷ z ∷ []) ∷ []) ≡ true → both_hinted hs u v w x y z ≡ true
  both-hinted u v w x y z e =
      let a = both_left (together_in ls (u ∷ v ∷ w ∷ [])) _ e in
      let b = both_left (together_in ls (x ∷ y ∷ z ∷ [])) _ (both_right (together_in ls (u ∷ v ∷ w ∷ [])) _ e) in
      rw (g.facets u v w a, g.facets x y z b)

  split-hinted : (w x y z : ℕ) → split_by (together_in ls) w x y z ≡ true → split_at hs w x y z ≡ true
  split-hinted w x y z e =
      or_imp (all (together_in ls) ((w ∷ x ∷ y ∷ []) ∷ (w ∷ y ∷ z ∷ []) ∷ [])) (all (together_in ls) ((w ∷ x ∷ z ∷ []) ∷ (x ∷ y ∷ z ∷ []) ∷ [])) (both_hinted hs w x y w y z) (both_hinted hs w x z x y z) (both-hinted w x y w y z) (both-hinted w x z x y z) e

-- ── a listed tuple ──

module _ (zs : List ℤ) (ls ps : List ℕ) (k : ℕ) (s : List ℕ) (leaf : is_leaf (mesh_of zs ls ps) (template_of k) s ≡ true) where
  abbrev m : Mesh
  m = mesh_of zs ls ps

  abbrev t : Template
  t = template_of k

  abbrev c : List ℕ
  c = at s t.places

  both : (placed_after (length m.points) t.search [] (front t.corners s) && is_cell m t c) ≡ true
  both = sym (leaf_goes m t (flat-at k) s) ∙ leaf

  goes : placed_after (length m.points) t.search [] (front t.corners s) ≡ true
  goes = both_left (placed_after (length m.points) t.search [] (front t.corners s)) _ both

  cell : is_cell m t c ≡ true
  cell = both_right (placed_after (length m.points) t.search [] (front t.corners s)) _ both

  met : Conditions m t c
  met = cell_meets m t c cell

  pub leaf-faces : has_faces (mesh_of zs ls ps) (template_of k) (at s (template_of k).places) ≡ true
  leaf-faces = met.faces

  pub leaf_edges : has_edges (mesh_of zs ls ps) (template_of k) (at s (template_of k).places) ≡ true
  leaf_edges = met.edges

  module _ (d : ℕ) (h : d < t.corners) where
    at_place : (get_or s d 0 < length m.points) × (allowed (get_or t.search d (placing [] [])) (front d s) (get_or s d 0) ≡ true)
    at_place =
        let r = goes_at (length m.points) t.search [] (front t.corners s) goes d (omega (arith, (flat-at k).placed)) in
        let e : get_or (front t.corners s) d 0 ≡ get_or s d 0 = get_or-up (λ i. get_or s i 0) 0 t.corners d h in
        let f : take d (front t.corners s) ≡ front d s = take-run (λ i. get_or s i 0) 0 t.corners d (omega arith) in
        (omega (arith, r.0), ap₂ (allowed (get_or t.search d (placing [] []))) (sym f) (sym e) ∙ r.1)

    -- its entries are vertices of the mesh
    pub leaf-small : get_or s d 0 < length m.points
    leaf-small = at_place.0

    pub leaf-allowed : allowed (get_or (template_of k).search d (placing [] [])) (front d s) (get_or s d 0) ≡ true
    leaf-allowed = at_place.1

    module _ (u : List ℕ) (g : Agree (d + 1) u s) where
      right : Right t (base k + d) d
      right = right_at k d h

      -- what is new stays new, and what is above stays above
      comes : is_new_above (base k + d) d u ≡ true
      unfolding is_new_above allowed
      comes =
          let v = get_or s d 0 in
          let p = get_or t.search d (placing [] []) in
          let e : get_or u d 0 ≡ v = g d (omega arith) in
          let f : front d u ≡ front d s = run-same (λ i. get_or u i 0) (λ i. get_or s i 0) 0 d (λ i a b. g i (omega arith)) in
          let n = both_left (not (is_in v (front d s))) _ at_place.1 in
          let b = both_right (not (is_in v (front d s))) _ at_place.1 in
          let b' : all (λ i. ltb (get_or (front d s) i 0) v) (up_to (get_or lesser (base k + d) 0)) ≡ true = ap (all (λ i. ltb (get_or (front d s) i 0) v)) (sym right.of_below) ∙ b in
          rw (e, f, n) (all_from (λ i. ltb (get_or u i 0) v) (up_to (get_or lesser (base k + d) 0)) (λ i w.
          let l : i < get_or lesser (base k + d) 0 = omega (arith, (from_at 0 (get_or lesser (base k + d) 0) w).1) in
          ap (λ y. ltb y v) (g i (omega (arith, right.of_lesser)) ∙ sym (get_or-up (λ i. get_or s i 0) 0 d i (omega (arith, right.of_lesser))))
          ∙ all-at (λ i. ltb (get_or (front d s) i 0) v) (up_to (get_or lesser (base k + d) 0)) b' w))

      boxes : boxes_above (box_of (points_of zs)) u (level_triples (base k + d)) ≡ true
      unfolding box_at
      boxes =
          rows_pass (λ q. is_above0 (box_at m (at c q))) (λ r. is_above0 (box_at m (at u r))) 4 t d (level_triples (base k + d)) t.triples right.of_triples (sound_boxes m t c met.sound)
          (λ r q e f. ap (λ vs. is_above0 (box_at m vs)) (row_same 4 t d r q u s e g) ∙ f)

      module _ {hs : List ℕ} (hinted : HintsOf ls hs) where
        facets : all (hinted_at hs u) (level_triangles (base k + d)) ≡ true
        unfolding has_faces is_facet
        facets =
            rows_pass (is_facet m t c) (hinted_at hs u) 3 t d (level_triangles (base k + d)) t.triangles right.of_triangles (both_left (all (is_facet m t c) t.triangles) _ met.faces)
            (λ r q e f.
            let o = at_row u r 3 (row_sizes 3 t d r q e).0 in
            ap (hinted_facet hs) o
            ∙ hinted.facets (get_or u (get_or r 0 0) 0) (get_or u (get_or r 1 0) 0) (get_or u (get_or r 2 0) 0) (ap (together_in ls) (sym o) ∙ sym (together-in zs ls ps (at u r)) ∙ ap (together m) (row_same 3 t d r q u s e g) ∙ f))

        halves : all (splits (hinted_at hs u)) (level_quads (base k + d)) ≡ true
        unfolding has_faces is_split is_facet one_diagonal other_diagonal
        halves =
            rows_pass (is_split m t c) (splits (hinted_at hs u)) 4 t d (level_quads (base k + d)) t.quads right.of_quads (both_right (all (is_facet m t c) t.triangles) _ met.faces)
            (λ r q e f. split-hinted hinted (get_or u (get_or r 0 0) 0) (get_or u (get_or r 1 0) 0) (get_or u (get_or r 2 0) 0) (get_or u (get_or r 3 0) 0) (same-split r q (vertex-same 4 t d r q u s e g) ∙ f))
          where
            same-split : (r q : List ℕ) → ((i : ℕ) → i < 4 → get_or u (get_or r i 0) 0 ≡ get_or c (get_or q i 0) 0) → split_by (together_in ls) (get_or u (get_or r 0 0) 0) (get_or u (get_or r 1 0) 0) (get_or u (get_or r 2 0) 0) (get_or u (get_or r 3 0) 0) ≡ is_split (mesh_of zs ls ps) (template_of k) c q
            same-split r q f =
                sym (rw (sym (f 0 (omega arith)), sym (f 1 (omega arith)), sym (f 2 (omega arith)), sym (f 3 (omega arith)))
                (ap (λ b. split_by b (get_or u (get_or r 0 0) 0) (get_or u (get_or r 1 0) 0) (get_or u (get_or r 2 0) 0) (get_or u (get_or r 3 0) 0)) (fun_ext (together-in zs ls ps))))

        -- the test of level d, of any tuple that begins as this one does
        pub passes : passes_level zs hs (base k + d) d u ≡ true
        unfolding passes_level faces_hinted
        passes = rw (comes, boxes, facets, halves)

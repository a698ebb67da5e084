-- At every place but the first, a listed tuple has a neighbour of the vertex at an earlier place.
-- Assumes nothing.
use Prim.Native.Nat.{ℕ, ◌+◌, ◌<◌}
use mathlib.Core.Path.{◌≡◌, refl, sym, ◌∙◌, ap, fun_ext}
use mathlib.Core.Bool.{Bool, true, false, not, ◌&&◌, ◌||◌, true≢false, and-true, and_comm}
use mathlib.Core.List.{List, [], ◌∷◌, Memᴰ}
use native.Mathlib.Omega.{arith}
use native.Mathlib.Decide.{dec_lt}
use borrow.Author.Tests.{eqb-false, ne_eqb, ltb-true, not-true}
use lib.Dec.{eqb, ltb}
use lib.IntN.{ℤ}
use lib.ListN.{get_or}
use Rattle.base.specs.Lists.{all, any, up_to, is_in}
use Rattle.base.proofs.Bools.{or-either}
use Rattle.base.proofs.Lists.{both_left, both_right, all-at, any_at}
use Rattle.base.proofs.Members.{map-has, from-has}
use Rattle.space.specs.Mesh.{Mesh, Tetrahedron, together, holds}
use Rattle.space.specs.Arrays.{mesh_of}
use Rattle.tets_around.specs.Sharing.{together_in}
use Rattle.tets_around.proofs.Around.{together-in}
use Rattle.templates.specs.Tables.{Template, template_of, at}
use Rattle.cells.specs.Cells.{has_edges}
use Rattle.cells.specs.Full.{allowed}
use Rattle.portions.specs.between.Tuples.{front}
use Rattle.rule.specs.between.Leaf.{is_leaf}
use Rattle.levels.specs.between.Levels.{base}
use Rattle.levels.proofs.Right.{is_row, joins, joined_by, right_at, row_same}
use Rattle.listed.proofs.Prune.{leaf_edges, leaf-allowed}

together_swap : (m : Mesh) (u v : ℕ) → together m (u ∷ v ∷ []) ≡ together m (v ∷ u ∷ [])
unfolding together
together_swap m u v = ap (λ p. any p m.tets) (fun_ext same)
  where
    same : (e : Tetrahedron) → holds (u ∷ v ∷ []) e ≡ holds (v ∷ u ∷ []) e
    same e =
        ap (λ b. is_in u e.vertices && b) (and-true (is_in v e.vertices))
        ∙ and_comm (is_in u e.vertices) (is_in v e.vertices)
        ∙ ap (λ b. is_in v e.vertices && b) (sym (and-true (is_in u e.vertices)))

-- what is not in a list differs from each of its elements
apart : (x : ℕ) (xs : List ℕ) → is_in x xs ≡ false → {y : ℕ} → Memᴰ y xs → (y ≡ x → ⊥)
apart x [] e {y = y} x4 p = elim x4 [ ]
apart x (z ∷ zs) e {y} (Memᴰ.head q) p = go (eqb x z) refl e
  where
    go : (b : Bool) → eqb x z ≡ b → (b || is_in x zs) ≡ false → ⊥
    go true f g = true≢false g
    go false f g = eqb-false x z f (sym p ∙ q)
apart x (z ∷ zs) e (Memᴰ.tail h) p = apart x zs (go (eqb x z) e) h p
  where
    go : (b : Bool) → (b || is_in x zs) ≡ false → is_in x zs ≡ false
    go true g = absurd (true≢false g)
    go false g = g

-- two places of a listed tuple have different vertices
module _ (zs : List ℤ) (ls ps : List ℕ) (k : ℕ) (s : List ℕ) (leaf : is_leaf (mesh_of zs ls ps) (template_of k) s ≡ true) where
  pub later_differs : (p d : ℕ) → p < d → d < (template_of k).corners → (get_or s p 0 ≡ get_or s d 0 → ⊥)
  unfolding allowed
  later_differs p d b h =
      let v = get_or s d 0 in
      let n = not-true (is_in v (front d s)) (both_left (not (is_in v (front d s))) _ (leaf-allowed zs ls ps k s leaf d h)) in
      apart v (front d s) n (map-has (λ i. get_or s i 0) (up_to d) (from-has 0 d p (omega arith) (omega arith)))

  pub leaf_apart : (p q : ℕ) → p < (template_of k).corners → q < (template_of k).corners → (p ≡ q → ⊥) → eqb (get_or s p 0) (get_or s q 0) ≡ false
  leaf_apart p q a b z =
      ne_eqb (get_or s p 0) (get_or s q 0) (elim (dec_lt p q) [
        | yes l ↦ later_differs p q l b
        | no l ↦ elim (dec_lt q p) [ yes g ↦ λ e. later_differs q p g a (sym e) | no g ↦ absurd (z (omega arith)) ]
      ])

pub record Joined (ls : List ℕ) (s : List ℕ) (p d : ℕ) : Type 0 where
  pub earlier : p < d
  pub edge : together_in ls (get_or s p 0 ∷ get_or s d 0 ∷ []) ≡ true
  pub other : eqb (get_or s p 0) (get_or s d 0) ≡ false

module _ (zs : List ℤ) (ls ps : List ℕ) (k : ℕ) (s : List ℕ) (leaf : is_leaf (mesh_of zs ls ps) (template_of k) s ≡ true) (d : ℕ) (h : d < (template_of k).corners) where
  abbrev m : Mesh
  m = mesh_of zs ls ps

  abbrev t : Template
  t = template_of k

  module _ (p : ℕ) (j : joins (template_of k) p d ≡ true) where
    before : p < d
    unfolding joins
    before = ltb-true p d (both_left (ltb p d) _ j)

    edge_here : together m (get_or s p 0 ∷ get_or s d 0 ∷ []) ≡ true
    unfolding joins has_edges
    edge_here =
        let a = any_at (λ e. is_row 2 t d (p ∷ d ∷ []) e || is_row 2 t d (d ∷ p ∷ []) e) t.edges (both_right (ltb p d) _ j) in
        let e = a.0 in
        let f = all-at (λ e. together m (at (at s t.places) e)) t.edges (leaf_edges zs ls ps k s leaf) a.1 in
        or-either (is_row 2 t d (p ∷ d ∷ []) e) (is_row 2 t d (d ∷ p ∷ []) e) a.2
        (λ r. ap (together m) (row_same 2 t d (p ∷ d ∷ []) e s s r (λ j l. refl)) ∙ f)
        (λ r. together_swap m (get_or s p 0) (get_or s d 0) ∙ ap (together m) (row_same 2 t d (d ∷ p ∷ []) e s s r (λ j l. refl)) ∙ f)

    joins-leaf : Joined ls s p d
    joins-leaf = record {
      earlier = before;
      edge = sym (together-in zs ls ps (get_or s p 0 ∷ get_or s d 0 ∷ [])) ∙ edge_here;
      other = ne_eqb (get_or s p 0) (get_or s d 0) (later_differs zs ls ps k s leaf p d before h);
    }

  module _ (z : d ≡ 0 → ⊥) where
    pub leaf-joined : {l : List ℕ} → Memᴰ l joined_by → Joined ls s (get_or l (base k + d) 0) d
    leaf-joined {l} i =
        let f : List ℕ → Bool = λ l. joins t (get_or l (base k + d) 0) d in
        let e : all f joined_by ≡ true = or-either (eqb d 0) (all f joined_by) (right_at k d h).of_joined (λ e. absurd (true≢false (sym e ∙ ne_eqb d 0 z))) (λ e. e) in
        joins-leaf (get_or l (base k + d) 0) (all-at f joined_by e i)

-- The search that leaves a vertex out as soon as an edge is missing lists the same cells.
-- Assumes nothing.
use Prim.Native.Nat.{ℕ, suc, ◌<◌}
use mathlib.Core.Path.{◌≡◌, refl, sym, ◌∙◌, ap, ap₂, fun_ext}
use mathlib.Core.Bool.{Bool, true, false, cond, ◌&&◌, ◌||◌}
use mathlib.Core.List.{List, [], ◌∷◌, ◌++◌, map, append_assoc, append-nil}
use lib.Dec.{ltb}
use lib.ListN.{length, get_or, length-append, get_or-append}
use lib.Seq.{get_or-append_seam}
use native.Mathlib.Omega.{arith}
use borrow.Author.Tests.{ltb-true}
use Rattle.base.specs.Lists.{all, any, keep, spread, up_to, is_in, equal}
use Rattle.templates.specs.Tables.{Placing, Template, hexahedron, prism, pyramid, at}
use Rattle.space.specs.Mesh.{Mesh, together}
use Rattle.cells.specs.Cells.{is_cell, has_edges}
use Rattle.cells.proofs.Conditions.{cell_meets}
use Rattle.cells.specs.Full.{cell_in, allowed, grow, universe, cells_of, full_list}
use Rattle.exactly_once.specs.between.Pruned.{linked, pruned_of, pruned_list}
use Rattle.templates.proofs.Tests.{equal_eq}
use Rattle.base.proofs.Bools.{or-either}
use Rattle.base.proofs.Lists.{both_left, both_right, fails, all-at, all_from, any_at, keep-map, keep-spread, spread-keep, spread_ext, spread_none}

-- ---- leaving out what no cell goes on from

module _ (ok more : Placing → List ℕ → ℕ → Bool) (n : ℕ) (P : List ℕ → Bool) where
  unfoldable pub narrow : Placing → List ℕ → ℕ → Bool
  narrow p s v = ok p s v && more p s v

  -- where more fails, no tuple that goes on passes the test
  unfoldable pub Safe : List Placing → List ℕ → Type 0
  Safe [] s = Unit
  Safe (p ∷ ps) s = (v : ℕ) → (more p s v ≡ false → (u : List ℕ) → P ((s ++ (v ∷ [])) ++ u) ≡ false) × Safe ps (s ++ (v ∷ []))

  dead : (ps : List Placing) (s : List ℕ) → ((u : List ℕ) → P (s ++ u) ≡ false) → keep P (grow ok n ps s) ≡ []
  unfolding grow keep
  dead [] s h = rw (← append-nil s, h [])
  dead (p ∷ ps) s h =
      keep-spread P _ _
      ∙ spread_ext _ (λ v. dead ps (s ++ (v ∷ [])) (λ u. ap P (append_assoc s (v ∷ []) u) ∙ h (v ∷ u)))
      ∙ spread_none _

  pub prune : (ps : List Placing) (s : List ℕ) → Safe ps s → keep P (grow ok n ps s) ≡ keep P (grow narrow n ps s)
  unfolding grow Safe narrow
  prune [] s g = refl
  prune (p ∷ ps) s g =
      keep-spread P wide (keep (ok p s) (up_to n))
      ∙ spread-keep (λ v. keep P (wide v)) (ok p s) (up_to n)
      ∙ spread_ext (up_to n) (λ v. go v (ok p s v) (more p s v) refl (prune ps (s ++ (v ∷ [])) (g v).1))
      ∙ sym (spread-keep (λ v. keep P (less v)) (narrow p s) (up_to n))
      ∙ sym (keep-spread P less (keep (narrow p s) (up_to n)))
    where
      wide : ℕ → List (List ℕ)
      wide v = grow ok n ps (s ++ (v ∷ []))

      less : ℕ → List (List ℕ)
      less v = grow narrow n ps (s ++ (v ∷ []))

      go : (v : ℕ) (a b : Bool) → more p s v ≡ b → keep P (grow ok n ps (s ++ (v ∷ []))) ≡ keep P (grow narrow n ps (s ++ (v ∷ []))) → cond a (keep P (grow ok n ps (s ++ (v ∷ [])))) [] ≡ cond (a && b) (keep P (grow narrow n ps (s ++ (v ∷ [])))) []
      go v true true q e = e
      go v true false q e = dead ps (s ++ (v ∷ [])) ((g v).0 q)
      go v false b q e = refl

-- ---- a missing edge

-- the edges of a template, by places
edges_at : Template → List (List ℕ)
edges_at t = map (at t.places) t.edges

-- each place is joined to earlier places, by edges
is_place : List (List ℕ) → ℕ → Placing → Bool
is_place es k p = all (λ j. ltb j k && any (λ e. equal e (j ∷ k ∷ []) || equal e (k ∷ j ∷ [])) es) p.joined

are_places : List (List ℕ) → ℕ → List Placing → Bool
are_places es k [] = true
are_places es k (p ∷ ps) = is_place es k p && are_places es (suc k) ps

-- two vertices are neighbours either way round
swap : (a b : Bool) → (a && (b && true)) ≡ (b && (a && true))
swap true true = refl
swap true false = refl
swap false true = refl
swap false false = refl

together_swap : (m : Mesh) (a b : ℕ) → together m (a ∷ b ∷ []) ≡ together m (b ∷ a ∷ [])
unfolding together
together_swap m a b = ap (λ f. any f m.tets) (fun_ext (λ e. swap (is_in a e.vertices) (is_in b e.vertices)))

module _ (m : Mesh) (es : List (List ℕ)) (s : List ℕ) (v : ℕ) (u : List ℕ) where
  whole : List ℕ
  whole = (s ++ (v ∷ [])) ++ u

  at_earlier : (j : ℕ) → j < length s → get_or whole j 0 ≡ get_or s j 0
  unfolding whole
  at_earlier j h = ap (λ l. get_or l j 0) (append_assoc s (v ∷ []) u) ∙ get_or-append s (v ∷ u) 0 j h

  at_new : get_or whole (length s) 0 ≡ v
  unfolding whole
  at_new = ap (λ l. get_or l (length s) 0) (append_assoc s (v ∷ []) u) ∙ get_or-append_seam s v u 0

  linked_of : (p : Placing) → is_place es (length s) p ≡ true → all (λ e. together m (at whole e)) es ≡ true → linked m p s v ≡ true
  unfolding linked is_place
  linked_of p t h = all_from _ p.joined (λ j q. one j (all-at _ p.joined t q))
    where
      one : (j : ℕ) → (ltb j (length s) && any (λ e. equal e (j ∷ length s ∷ []) || equal e (length s ∷ j ∷ [])) es) ≡ true → together m (get_or s j 0 ∷ v ∷ []) ≡ true
      one j t =
          let k = length s in
          let less : j < k = ltb-true j k (both_left (ltb j k) _ t) in
          let e = any_at _ es (both_right (ltb j k) _ t) in
          let g : together m (at whole e.0) ≡ true = all-at _ es h e.1 in
          let ends : together m (get_or whole j 0 ∷ get_or whole k 0 ∷ []) ≡ together m (get_or s j 0 ∷ v ∷ []) = ap₂ (λ a b. together m (a ∷ b ∷ [])) (at_earlier j less) at_new in
          or-either (equal e.0 (j ∷ k ∷ [])) (equal e.0 (k ∷ j ∷ [])) e.2
          (λ w. sym ends ∙ ap (λ x. together m (at whole x)) (sym (equal_eq e.0 (j ∷ k ∷ []) w)) ∙ g)
          (λ w. sym ends ∙ together_swap m _ _ ∙ ap (λ x. together m (at whole x)) (sym (equal_eq e.0 (k ∷ j ∷ []) w)) ∙ g)

-- ---- the templates

module _ (m : Mesh) (t : Template) (flat : (u : List ℕ) → has_edges m t (at u t.places) ≡ all (λ e. together m (at u e)) (edges_at t)) where
  passes : List ℕ → Bool
  passes s = is_cell m t (at s t.places)

  safe : (k : ℕ) (ps : List Placing) → are_places (edges_at t) k ps ≡ true → (s : List ℕ) → length s ≡ k → Safe allowed (linked m) (length m.points) passes ps s
  unfolding Safe are_places passes whole
  safe k [] e s l = tt
  safe k (p ∷ ps) e s l =
      λ v.
      (λ q u. fails _ _ (λ w. linked_of m (edges_at t) s v u p (rw l (both_left (is_place (edges_at t) k p) _ e)) (sym (flat ((s ++ (v ∷ [])) ++ u)) ∙ (cell_meets m t _ w).edges)) q, safe (suc k) ps (both_right (is_place (edges_at t) k p) _ e) (s ++ (v ∷ [])) (omega (arith, length-append s (v ∷ []))))

  letters : List ℕ → List ℕ
  letters s = at s t.places

  kept : are_places (edges_at t) 0 t.search ≡ true → keep (is_cell m t) (map letters (grow (narrow allowed (linked m) (length m.points) passes) (length m.points) t.search [])) ≡ keep (is_cell m t) (map letters (grow allowed (length m.points) t.search []))
  unfolding passes letters
  kept e =
      let n = length m.points in
      rw (keep-map (is_cell m t) letters (grow (narrow allowed (linked m) n passes) n t.search []), keep-map (is_cell m t) letters (grow allowed n t.search [])) (ap (map letters) (sym (prune allowed (linked m) n passes t.search [] (safe 0 t.search e [] refl))))

  found-is : are_places (edges_at t) 0 t.search ≡ true → pruned_of m t ≡ cells_of m t
  unfolding pruned_of cells_of universe narrow letters
  found-is e = ap (map (cell_in m t)) (kept e)

pub found_hexahedra : (m : Mesh) → pruned_of m hexahedron ≡ cells_of m hexahedron
unfolding edges_at are_places is_place equal has_edges
found_hexahedra m = found-is m hexahedron (λ u. refl) refl

found_prisms : (m : Mesh) → pruned_of m prism ≡ cells_of m prism
unfolding edges_at are_places is_place equal has_edges
found_prisms m = found-is m prism (λ u. refl) refl

found_pyramids : (m : Mesh) → pruned_of m pyramid ≡ cells_of m pyramid
unfolding edges_at are_places is_place equal has_edges
found_pyramids m = found-is m pyramid (λ u. refl) refl

-- the quick search finds the full list
pub found_all : (m : Mesh) → pruned_list m ≡ full_list m
unfolding pruned_list full_list spread
found_all m = rw (found_hexahedra m, found_prisms m, found_pyramids m)

-- One kind: its cells rise, and they are what the tuples make that pass `is_leaf`, in the order of the tuples.
-- Assumes nothing.
use Prim.Native.Nat.{ℕ, zero, suc, ◌-◌, ◌<◌, ◌≤◌}
use mathlib.Core.Path.{◌≡◌, refl, sym, ◌∙◌, ap, ap₂, subst}
use mathlib.Core.Logic.{⊎_elim}
use mathlib.Core.Bool.{Bool, true, ◌&&◌}
use mathlib.Core.List.Memᴰ
use mathlib.Core.List.{List, [], ◌∷◌, Memᴰ}
use lib.Dec.{ltb}
use lib.ListN.{length, get_or, replicate, length-map}
use native.Mathlib.Omega.{arith}
use borrow.Author.Tests.{ltb-true}
use Rattle.base.specs.Lists.{all, keep, up_to, pad, every, distinct}
use Rattle.base.proofs.Lists.{both_left, both_right, all-at}
use Rattle.base.proofs.Loop.{length_up, get_or-up}
use Rattle.base.proofs.Members.{keep_at, keep-has, map_at, map-has}
use Rattle.space.specs.Mesh.{Mesh}
use Rattle.templates.specs.Tables.{Template, hexahedron, prism, pyramid, templates, template_of, at}
use Rattle.least.specs.Least.{is_least, rises_at, first_is_less as risesPair}
use Rattle.templates.proofs.Tests.{agree, both, covers, at_all}
use Rattle.least.proofs.Turns.{corner_tests, corners-all, turned-distinct}
use Rattle.cells.specs.Cells.{is_cell}
use Rattle.cells.proofs.Conditions.{cell-corners}
use Rattle.cells.specs.Full.{Cell, cell_in, allowed, grow, universe, cells_of}
use Rattle.portions.specs.Portions.{before, rises, is_after}
use Rattle.portions.specs.between.Tuples.{Agree, Lt}
use Rattle.portions.specs.between.Steps.{Kind}
use Rattle.portions.proofs.Order.{before_same, keep-rises, rises_so, rises-map}
use Rattle.portions.proofs.Search.{Laws}
use Rattle.portions.proofs.Tuples.{of_lt, agree_at}
use Rattle.rule.specs.Rule.{key, tet_rule}
use Rattle.rule.specs.between.Leaf.{is_leaf, placed_after, cell_at}
use Rattle.rule.proofs.Grow.{grow_shape, grow-rises, grow-has, grow-less, goes_has, has_goes, pairs_from, in_order, less_at}

-- the order of the list
abbrev pub upward : Cell → Cell → Bool
upward c d = is_after tet_rule (tet_rule.mark c) d

-- what is computed of each template
pub record Flat (t : Template) : Type 0 where
  -- a candidate's key is its kind's number and then its vertices in search order
  pub keyed : (s : List ℕ) → key (t.kind ∷ pad 8 0 (at s t.places)) ≡ (65535 - t.kind) ∷ at s (up_to t.corners)
  pub ordered : (s : List ℕ) → key (t.kind ∷ s) ≡ (65535 - t.kind) ∷ at s t.order
  -- the search order and the places undo each other
  pub placed : length t.search ≡ t.corners
  pub sized : length t.places ≡ t.corners
  pub framed : (s : List ℕ) → at (at s (up_to t.corners)) t.places ≡ at s t.places
  pub undone : (s : List ℕ) → at (at s t.places) t.order ≡ at s (up_to t.corners)
  pub closed : (s : List ℕ) → at (at s t.order) (up_to t.corners) ≡ at s t.order
  pub arranged : every (corner_tests t t.order) ≡ true
  -- least form is what the search asks for at each place
  pub earlier : in_order 0 t.search ≡ true
  pub least : (s : List ℕ) → is_least t (at s t.places) ≡ all (less_at (at s (up_to t.corners))) (pairs_from 0 t.search)
  pub first : (s : List ℕ) → is_least t (at s t.places) ≡ true → get_or s 0 0 < get_or s 1 0
  pub several : 1 < t.corners
  pub few : t.corners ≤ 8
  pub known : template_of t.kind ≡ t
  pub low : 4 < t.kind
  pub high : t.kind < 9

pub flat-hexahedron : Flat hexahedron
unfolding key corner_tests covers is_least rises_at risesPair
flat-hexahedron = record { keyed = λ s. refl; ordered = λ s. refl; placed = refl; sized = refl; framed = λ s. refl; undone = λ s. refl; closed = λ s. refl; arranged = refl; earlier = refl; least = λ s. refl; first = λ s e. ltb-true _ _ (both_left _ _ e); several = omega arith; few = omega arith; known = refl; low = omega arith; high = omega arith }

pub flat-prism : Flat prism
unfolding key corner_tests covers is_least rises_at risesPair
flat-prism = record { keyed = λ s. refl; ordered = λ s. refl; placed = refl; sized = refl; framed = λ s. refl; undone = λ s. refl; closed = λ s. refl; arranged = refl; earlier = refl; least = λ s. refl; first = λ s e. ltb-true _ _ (both_left _ _ e); several = omega arith; few = omega arith; known = refl; low = omega arith; high = omega arith }

pub flat-pyramid : Flat pyramid
unfolding key corner_tests covers is_least rises_at risesPair
flat-pyramid = record { keyed = λ s. refl; ordered = λ s. refl; placed = refl; sized = refl; framed = λ s. refl; undone = λ s. refl; closed = λ s. refl; arranged = refl; earlier = refl; least = λ s. refl; first = λ s e. ltb-true _ _ (both_left _ _ e); several = omega arith; few = omega arith; known = refl; low = omega arith; high = omega arith }

pub flat-of : {t : Template} → Memᴰ t templates → Flat t
flat-of h =
    ⊎_elim (λ q. subst Flat (sym q) flat-hexahedron)
    (λ g. ⊎_elim (λ q. subst Flat (sym q) flat-prism) (λ f. subst Flat (sym (Memᴰ.eq_of_singleton f)) flat-pyramid) (Memᴰ.cases_cons g))
    (Memᴰ.cases_cons h)

-- the candidates of a kind, in search order
unfoldable pub candidates : Mesh → Template → List (List ℕ)
candidates m t = grow allowed (length m.points) t.search []

module _ (m : Mesh) (t : Template) (flat : Flat t) where
  front : List ℕ → List ℕ
  front s = at s (up_to t.corners)

  -- all of a candidate's vertices count
  pub counted : (s : List ℕ) → Memᴰ s (candidates m t) → at s (up_to t.corners) ≡ s
  unfolding candidates
  counted s h =
      let r = grow_shape allowed (length m.points) t.search [] h in
      let e : t.corners ≡ length s = sym flat.placed ∙ sym r.2 ∙ ap length (sym r.1) in
      ap (λ k. at s (up_to k)) e ∙ at_all s

  pub keyed : (s : List ℕ) → Memᴰ s (candidates m t) → key (tet_rule.mark (cell_at m t s)) ≡ (65535 - t.kind) ∷ s
  unfolding cell_at
  keyed s h = flat.keyed s ∙ ap (λ l. (65535 - t.kind) ∷ l) (counted s h)

  pub cells_rise : rises upward (cells_of m t) ≡ true
  unfolding cells_of universe is_after candidates cell_at
  cells_rise =
      rises-map upward (cell_in m t) (keep (is_cell m t) (universe (length m.points) t))
      ∙ keep-rises (λ c d. upward (cell_in m t c) (cell_in m t d)) (is_cell m t) (universe (length m.points) t)
      (rises-map (λ c d. upward (cell_in m t c) (cell_in m t d)) (λ s. at s t.places) (candidates m t)
      ∙ rises_so before (λ s u. upward (cell_at m t s) (cell_at m t u)) (candidates m t)
      (λ s u g h e. ap₂ before (keyed s g) (keyed u h) ∙ before_same (65535 - t.kind) s u ∙ e)
      (grow-rises allowed (length m.points) t.search []))

  -- a cell of the list is that of a candidate
  pub cells_at : {c : Cell} → Memᴰ c (cells_of m t) → (s : List ℕ) × Memᴰ s (candidates m t) × (is_cell m t (at s t.places) ≡ true) × (c ≡ cell_at m t s)
  unfolding cells_of universe candidates cell_at
  cells_at h =
      let r = map_at (cell_in m t) (keep (is_cell m t) (universe (length m.points) t)) h in
      let k = keep_at (is_cell m t) (universe (length m.points) t) r.1 in
      let g = map_at (λ s. at s t.places) (candidates m t) k.0 in
      (g.0, g.1, ap (is_cell m t) (sym g.2) ∙ k.1, r.2 ∙ ap (cell_in m t) g.2)

  pub cells_has : (s : List ℕ) → Memᴰ s (candidates m t) → is_cell m t (at s t.places) ≡ true → Memᴰ (cell_at m t s) (cells_of m t)
  unfolding cells_of universe candidates cell_at
  cells_has s h e = map-has (cell_in m t) _ (keep-has (is_cell m t) (universe (length m.points) t) (map-has (λ s. at s t.places) (candidates m t) h) e)

  pub kind_at : {c : Cell} → Memᴰ c (cells_of m t) → c.kind ≡ t.kind
  unfolding cell_at
  kind_at h = ap (λ c. c.kind) (cells_at h).3

  pub corners-at : {c : Cell} → Memᴰ c (cells_of m t) → length c.corners ≡ t.corners
  unfolding cell_at
  corners-at h = let r = cells_at h in ap (λ c. length c.corners) r.3 ∙ length-map t.places (λ k. get_or r.0 k 0) ∙ flat.sized

  -- ── the tuples that pass ──

  -- of a tuple that passes, the entries that count are distinct vertices
  leaf-tuple : (s : List ℕ) → is_leaf m t s ≡ true → (all (λ v. ltb v (length m.points)) (front s) ≡ true) × (distinct (front s) ≡ true)
  unfolding is_leaf front
  leaf-tuple s e =
      let c = at s t.places in
      let long : length c ≡ t.corners = length-map t.places (λ k. get_or s k 0) ∙ flat.sized in
      let tuple = cell-corners m t c (both_right (is_least t c) (is_cell m t c) e) in (
        ap (all (λ v. ltb v (length m.points))) (sym (flat.undone s)) ∙ corners-all t t.order c flat.arranged long (λ v. ltb v (length m.points)) ∙ tuple.below,
        ap distinct (sym (flat.undone s)) ∙ turned-distinct t t.order c flat.arranged long ∙ tuple.apart,
      )

  -- a cell in least form is a candidate
  leaf-in : (s : List ℕ) → is_leaf m t s ≡ true → Memᴰ (front s) (candidates m t)
  unfolding is_leaf candidates front
  leaf-in s e =
      grow-has (length m.points) t.search [] (at s (up_to t.corners)) (length_up (λ k. get_or s k 0) t.corners ∙ sym flat.placed)
      (leaf-tuple s e).0 (leaf-tuple s e).1 flat.earlier (sym (flat.least s) ∙ both_left _ _ e)

  leaf-cell : (s : List ℕ) → is_leaf m t s ≡ true → is_cell m t (at s t.places) ≡ true
  unfolding is_leaf
  leaf-cell s e = both_right (is_least t (at s t.places)) _ e

  -- and a candidate that is a cell passes
  leaf-of : (s : List ℕ) → Memᴰ s (candidates m t) → is_cell m t (at s t.places) ≡ true → is_leaf m t s ≡ true
  unfolding is_leaf candidates
  leaf-of s h e = both _ _ (flat.least s ∙ ap (λ w. all (less_at w) (pairs_from 0 t.search)) (counted s h) ∙ grow-less (length m.points) t.search [] flat.earlier h) e

  front-cell : (s : List ℕ) → cell_at m t (front s) ≡ cell_at m t s
  unfolding cell_at front
  front-cell s = ap (cell_in m t) (flat.framed s)

  -- the key of the cell that a tuple makes
  pub leaf-key : (s : List ℕ) → is_leaf m t s ≡ true → key (tet_rule.mark (cell_at m t s)) ≡ (65535 - t.kind) ∷ at s (up_to t.corners)
  unfolding front
  leaf-key s e = ap (λ c. key (tet_rule.mark c)) (sym (front-cell s)) ∙ keyed (front s) (leaf-in s e)

  -- no tuple of zeros passes
  pub zeros-before : (s : List ℕ) → is_leaf m t s ≡ true → Lt t.corners (replicate 8 0) s
  unfolding is_leaf
  zeros-before s e = go (get_or s 0 0) refl
    where
      up : get_or s 0 0 < get_or s 1 0
      up = flat.first s (both_left _ _ e)

      go : (v : ℕ) → get_or s 0 0 ≡ v → Lt t.corners (replicate 8 0) s
      go zero q = record { place = 1; within = flat.several; same = λ j h. same j h; less = omega (arith, up) }
        where
          same : (j : ℕ) → j < 1 → get_or (replicate 8 0) j 0 ≡ get_or s j 0
          same zero h = sym q
          same (suc j) h = absurd (let z : ⊥ = omega arith in z)
      go (suc v) q = record { place = 0; within = omega (arith, flat.several); same = λ j h. absurd (let z : ⊥ = omega arith in z); less = omega (arith, q) }

  pub kind : Kind tet_rule (cells_of m t) t.corners (is_leaf m t) (cell_at m t)
  unfolding is_after front
  kind = record {
    has = λ s e. subst (λ c. Memᴰ c (cells_of m t)) (front-cell s) (cells_has (front s) (leaf-in s e) (ap (is_cell m t) (flat.framed s) ∙ leaf-cell s e));
    of = λ h. let x = cells_at h in (x.0, leaf-of x.0 x.1 x.2, x.3);
    same = λ s u a. sym (front-cell s) ∙ ap (cell_at m t) (agree_at s u t.corners a) ∙ front-cell u;
    rise = λ s u e f l. ap₂ before (leaf-key s e) (leaf-key u f) ∙ before_same (65535 - t.kind) (front s) (front u) ∙ of_lt s u t.corners l;
  }

  -- the test reads the entries that count
  pub leaf_reads : (s u : List ℕ) → Agree t.corners s u → is_leaf m t s ≡ is_leaf m t u
  unfolding is_leaf
  leaf_reads s u a = ap (λ c. is_least t c && is_cell m t c) (sym (flat.framed s) ∙ ap (λ w. at w t.places) (agree_at s u t.corners a) ∙ flat.framed u)

  -- what a search is told of the test
  pub leaf_laws : Laws t.corners (length m.points) (is_leaf m t)
  unfolding front
  leaf_laws = record {
    small = λ s d e h. ltb-true _ _ (sym (ap (λ v. ltb v (length m.points)) (get_or-up (λ k. get_or s k 0) 0 t.corners d h)) ∙ all-at (λ v. ltb v (length m.points)) (front s) (leaf-tuple s e).0 (get_or_in (front s) d (omega (arith, length_up (λ k. get_or s k 0) t.corners))));
    reads = leaf_reads;
  }
    where
      get_or_in : (xs : List ℕ) (i : ℕ) → i < length xs → Memᴰ (get_or xs i 0) xs
      get_or_in [] i h = absurd (let z : ⊥ = omega arith in z)
      get_or_in (x ∷ xs) zero h = Memᴰ.head refl
      get_or_in (x ∷ xs) (suc i) h = Memᴰ.tail (get_or_in xs i (omega arith))

  -- the same test, place by place
  pub leaf_goes : (s : List ℕ) → is_leaf m t s ≡ (placed_after (length m.points) t.search [] (at s (up_to t.corners)) && is_cell m t (at s t.places))
  unfolding candidates front is_leaf
  leaf_goes s =
      agree _ _
      (λ e. let g = has_goes (length m.points) t.search [] (leaf-in s e) in both _ _ (ap (placed_after (length m.points) t.search []) g.1 ∙ g.2) (leaf-cell s e))
      (λ e.
      let h = goes_has (length m.points) t.search [] (at s (up_to t.corners)) (both_left _ (is_cell m t (at s t.places)) e) in
      ap (λ c. is_least t c && is_cell m t c) (sym (flat.framed s)) ∙ leaf-of (front s) h (ap (is_cell m t) (flat.framed s) ∙ both_right (placed_after (length m.points) t.search [] (at s (up_to t.corners))) _ e))

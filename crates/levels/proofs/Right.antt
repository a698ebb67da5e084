-- The tables of the levels are right: one computed test over the places of the three kinds,
-- and what it says of one level.
-- Assumes nothing.
use Prim.Native.Nat.{ℕ, zero, suc, ◌+◌, ◌<◌, ◌≤◌}
use mathlib.Core.Path.{◌≡◌, refl, sym, ◌∙◌, ap, ap₂}
use mathlib.Core.Bool.{Bool, true, false, cond, ◌&&◌, ◌||◌}
use mathlib.Core.List.{List, [], ◌∷◌, map}
use native.Mathlib.Omega.{arith}
use borrow.Author.Tests.{eqb-true, ltb-true, leb-true}
use lib.Dec.{eqb, ltb, leb}
use lib.ListN.{length, get_or}
use Rattle.base.specs.Lists.{all, any, from, up_to, equal}
use Rattle.base.proofs.Lists.{both_left, both_right, all-at, any_at}
use Rattle.base.proofs.Loop.{listed}
use Rattle.base.proofs.Members.{from-has}
use Rattle.templates.specs.Tables.{Template, placing, hexahedron, prism, pyramid, template_of, at}
use Rattle.cells.specs.between.Rows.{threes, fours}
use Rattle.portions.specs.between.Tuples.{Agree}
use Rattle.levels.specs.between.Levels.{base, triangles_at, quads_at, triples_at, lesser, joined, also, third, part, levels}

-- row r, by places, is the template's row q of w corners, and lies within the places up to d
unfoldable pub is_row : ℕ → Template → ℕ → List ℕ → List ℕ → Bool
is_row w t d r q =
    (eqb (length r) w && eqb (length q) w)
    && all (λ i. leb (get_or r i 0) d && (ltb (get_or q i 0) (length t.places) && eqb (get_or r i 0) (get_or t.places (get_or q i 0) 0))) (up_to w)

-- each of these rows is one of the template's
unfoldable pub are_rows : ℕ → Template → ℕ → List (List ℕ) → List (List ℕ) → Bool
are_rows w t d rs qs = all (λ r. any (is_row w t d r) qs) rs

-- an edge of the template joins the places p and d
unfoldable pub joins : Template → ℕ → ℕ → Bool
joins t p d = ltb p d && any (λ e. is_row 2 t d (p ∷ d ∷ []) e || is_row 2 t d (d ∷ p ∷ []) e) t.edges

-- the tables of earlier places that an edge joins to a place
abbrev pub joined_by : List (List ℕ)
joined_by = joined ∷ also ∷ third ∷ []

-- what holds of place d, whose row of the tables is x
unfoldable is_right : Template → ℕ → ℕ → Bool
is_right t x d =
    are_rows 3 t d (threes (part levels triangles_at x)) t.triangles
    && (are_rows 4 t d (fours (part levels quads_at x)) t.quads
    && (are_rows 4 t d (fours (part levels triples_at x)) t.triples
    && ((leb (get_or lesser x 0) d && equal (get_or t.search d (placing [] [])).below (up_to (get_or lesser x 0))) && (eqb d 0 || all (λ l. joins t (get_or l x 0) d) joined_by))))

unfoldable are_right : Template → ℕ → Bool
are_right t b = all (λ d. is_right t (b + d) d) (up_to t.corners)

right8 : are_right hexahedron 0 ≡ true
unfolding is_row are_rows joins is_right are_right equal levels
right8 = refl

right6 : are_right prism 8 ≡ true
unfolding is_row are_rows joins is_right are_right equal levels
right6 = refl

right5 : are_right pyramid 14 ≡ true
unfolding is_row are_rows joins is_right are_right equal levels
right5 = refl

equal_eq : (xs ys : List ℕ) → equal xs ys ≡ true → xs ≡ ys
unfolding equal
equal_eq [] [] e = refl
equal_eq [] (y ∷ ys) e = cc
equal_eq (x ∷ xs) [] e = cc
equal_eq (x ∷ xs) (y ∷ ys) e = ap₂ ◌∷◌ (eqb-true x y (both_left (eqb x y) (equal xs ys) e)) (equal_eq xs ys (both_right (eqb x y) (equal xs ys) e))

all_right : (k : ℕ) → are_right (template_of k) (base k) ≡ true
all_right k = go (eqb k 8) (eqb k 6)
  where
    go : (a b : Bool) → are_right (cond a hexahedron (cond b prism pyramid)) (cond a 0 (cond b 8 14)) ≡ true
    go true b = right8
    go false true = right6
    go false false = right5

pub record Right (t : Template) (x d : ℕ) : Type 0 where
  pub of_triangles : are_rows 3 t d (threes (part levels triangles_at x)) t.triangles ≡ true
  pub of_quads : are_rows 4 t d (fours (part levels quads_at x)) t.quads ≡ true
  pub of_triples : are_rows 4 t d (fours (part levels triples_at x)) t.triples ≡ true
  pub of_lesser : get_or lesser x 0 ≤ d
  pub of_below : (get_or t.search d (placing [] [])).below ≡ up_to (get_or lesser x 0)
  pub of_joined : (eqb d 0 || all (λ l. joins t (get_or l x 0) d) joined_by) ≡ true

pub right_at : (k d : ℕ) → d < (template_of k).corners → Right (template_of k) (base k + d) d
unfolding is_right are_right
right_at k d h =
    let t = template_of k in
    let x = base k + d in
    let e = all-at (λ d. is_right t (base k + d) d) (up_to t.corners) (all_right k) (from-has 0 t.corners d (omega arith) (omega arith)) in
    let e1 = both_right (are_rows 3 t d (threes (part levels triangles_at x)) t.triangles) _ e in
    let e2 = both_right (are_rows 4 t d (fours (part levels quads_at x)) t.quads) _ e1 in
    let e3 = both_right (are_rows 4 t d (fours (part levels triples_at x)) t.triples) _ e2 in
    let e4 = both_left (leb (get_or lesser x 0) d && equal (get_or t.search d (placing [] [])).below (up_to (get_or lesser x 0))) _ e3 in
    record {
      of_triangles = both_left _ _ e;
      of_quads = both_left _ _ e1;
      of_triples = both_left _ _ e2;
      of_lesser = leb-true _ _ (both_left (leb (get_or lesser x 0) d) _ e4);
      of_below = equal_eq _ _ (both_right (leb (get_or lesser x 0) d) _ e4);
      of_joined = both_right (leb (get_or lesser x 0) d && equal (get_or t.search d (placing [] [])).below (up_to (get_or lesser x 0))) _ e3;
    }

-- ── rows ──

pub run-same : {A : Type 0} (f g : ℕ → A) (i k : ℕ) → ((j : ℕ) → i ≤ j → j < i + k → f j ≡ g j) → map f (from i k) ≡ map g (from i k)
run-same f g i zero h = refl
run-same f g i (suc k) h = ap₂ ◌∷◌ (h i (omega arith) (omega arith)) (run-same f g (suc i) k (λ j a b. h j (omega arith) (omega arith)))

map-map : {A B C : Type 0} (f : B → C) (g : A → B) (xs : List A) → map f (map g xs) ≡ map (λ x. f (g x)) xs
map-map f g [] = refl
map-map f g (x ∷ xs) = ap (λ l. f (g x) ∷ l) (map-map f g xs)

-- the vertices of a row, by the places of the row
pub at_row : (c q : List ℕ) (w : ℕ) → length q ≡ w → at c q ≡ map (λ i. get_or c (get_or q i 0) 0) (up_to w)
at_row c q w e =
    ap (at c) (sym (listed 0 q)) ∙ map-map (λ k. get_or c k 0) (λ i. get_or q i 0) (up_to (length q)) ∙ ap (λ k. map (λ i. get_or c (get_or q i 0) 0) (up_to k)) e

-- an entry of a tuple in letter order
pub at_place : (s ps : List ℕ) (k : ℕ) → k < length ps → get_or (at s ps) k 0 ≡ get_or s (get_or ps k 0) 0
at_place s (p ∷ ps) zero h = refl
at_place s (p ∷ ps) (suc k) h = at_place s ps k (omega arith)
at_place s [] k h = absurd (omega arith)

pub row_sizes : (w : ℕ) (t : Template) (d : ℕ) (r q : List ℕ) → is_row w t d r q ≡ true → (length r ≡ w) × (length q ≡ w)
unfolding is_row
row_sizes w t d r q e =
    let a = both_left (eqb (length r) w && eqb (length q) w) _ e in
    (eqb-true _ _ (both_left (eqb (length r) w) _ a), eqb-true _ _ (both_right (eqb (length r) w) _ a))

-- a tuple in search order that agrees with s up to place d, and s in letter order, have the same vertices at such rows
module _ (w : ℕ) (t : Template) (d : ℕ) (r q : List ℕ) (u s : List ℕ) (e : is_row w t d r q ≡ true) (g : Agree (d + 1) u s) where
  sizes : (length r ≡ w) × (length q ≡ w)
  sizes = row_sizes w t d r q e

  pub vertex-same : (i : ℕ) → i < w → get_or u (get_or r i 0) 0 ≡ get_or (at s t.places) (get_or q i 0) 0
  unfolding is_row
  vertex-same i h =
      let a = all-at (λ i. leb (get_or r i 0) d && (ltb (get_or q i 0) (length t.places) && eqb (get_or r i 0) (get_or t.places (get_or q i 0) 0))) (up_to w) (both_right (eqb (length r) w && eqb (length q) w) _ e) (from-has 0 w i (omega arith) (omega arith)) in
      let b = both_right (leb (get_or r i 0) d) _ a in
      let low : get_or r i 0 ≤ d = leb-true _ _ (both_left (leb (get_or r i 0) d) _ a) in
      let in-range : get_or q i 0 < length t.places = ltb-true _ _ (both_left (ltb (get_or q i 0) (length t.places)) _ b) in
      let is : get_or r i 0 ≡ get_or t.places (get_or q i 0) 0 = eqb-true _ _ (both_right (ltb (get_or q i 0) (length t.places)) _ b) in
      g (get_or r i 0) (omega arith) ∙ ap (λ k. get_or s k 0) is ∙ sym (at_place s t.places (get_or q i 0) in-range)

  pub row_same : at u r ≡ at (at s t.places) q
  row_same =
      at_row u r w sizes.0
      ∙ run-same (λ i. get_or u (get_or r i 0) 0) (λ i. get_or (at s t.places) (get_or q i 0) 0) 0 w (λ i a b. vertex-same i (omega arith))
      ∙ sym (at_row (at s t.places) q w sizes.1)

-- a test of the template's rows, by their vertices, passes at the level's
pub rows_pass : (p p' : List ℕ → Bool) (w : ℕ) (t : Template) (d : ℕ) (rs qs : List (List ℕ)) → are_rows w t d rs qs ≡ true → all p qs ≡ true → ((r q : List ℕ) → is_row w t d r q ≡ true → p q ≡ true → p' r ≡ true) → all p' rs ≡ true
unfolding are_rows
rows_pass p p' w t d [] qs e a f = refl
rows_pass p p' w t d (r ∷ rs) qs e a f =
    let m = any_at (is_row w t d r) qs (both_left (any (is_row w t d r) qs) _ e) in
    rw (f r m.0 m.2 (all-at p qs a m.1), rows_pass p p' w t d rs qs (both_right (any (is_row w t d r) qs) _ e) a f)

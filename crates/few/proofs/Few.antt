-- A cell has few tetrahedra: each holds four of the triples of its corners, and few tetrahedra hold a triple.
-- Assumes nothing.
use Prim.Native.Nat.{ℕ, suc, ◌+◌, ◌*◌, ◌≤◌}
use mathlib.Core.Path.{◌≡◌, refl, sym, ◌∙◌, ap, fun_ext}
use mathlib.Core.Bool.{Bool, true, false, not, cond, ◌&&◌, ◌||◌}
use mathlib.Core.List.{List, [], ◌∷◌, ◌++◌, map, Memᴰ}
use lib.Dec.{eqb, ltb, leb}
use lib.ListN.{length, get_or}
use native.Mathlib.Omega.{arith}
use borrow.Author.Tests.{eqb-true, eq-eqb, not-true, leb-true}
use Rattle.base.specs.Lists.{all, keep, count, spread, up_to, is_in, distinct}
use Rattle.base.proofs.Bools.{or-either}
use Rattle.base.proofs.Lists.{both_left, both_right, all-at, all_from}
use Rattle.base.proofs.Members.{keep_at, map_at, spread_at}
use Rattle.space.specs.Mesh.{Mesh, Tetrahedron, holds}
use Rattle.tets_around.proofs.Around.{all_map, count_map}
use Rattle.templates.specs.Tables.{Template, templates, template_of, at}
use Rattle.templates.proofs.Tests.{agree, both, covers, same-all, at_all}
use Rattle.cells.specs.Cells.{one_diagonal, other_diagonal, corner3, inside, one, none_or_two, sides_of, once, paired, fills, is_tuple, has_edges, has_faces, is_sound, belongs, tets_of, numbers_from, numbers_of, sides, is_filled_by, is_filled, is_one_part, is_cell}
use Rattle.cells.specs.Cells as cells
use Rattle.cells.specs.Full.{universe, Cell, cell_in, cells_of, full_list}
use Rattle.few.specs.Few.{sum, is_apart, is_on, triples_of, most, Counted, Few}
use Rattle.few.proofs.Sums.{sum-append, sum-most, sum-each, sum_ones, sum-spread, count_swap, matches, sum_over}
use Rattle.few.proofs.Triples.{threes, triples-count}

-- ---- different numbers among different numbers

count-once : (v : ℕ) (xs : List ℕ) → distinct xs ≡ true → count (eqb v) xs ≡ cond (is_in v xs) 1 0
count-once v [] d = refl
count-once v (x ∷ xs) d = go (eqb v x) refl (count-once v xs (both_right (not (is_in x xs)) _ d))
  where
    go : (b : Bool) → eqb v x ≡ b → count (eqb v) xs ≡ cond (is_in v xs) 1 0 → cond b (suc (count (eqb v) xs)) (count (eqb v) xs) ≡ cond (b || is_in v xs) 1 0
    go true q e =
        let f : is_in v xs ≡ false = ap (λ w. is_in w xs) (eqb-true v x q) ∙ not-true (is_in x xs) (both_left _ _ d) in
        ap suc (e ∙ ap (λ b. cond b 1 0) f)
    go false q e = e

eqb_comm : (a b : ℕ) → eqb a b ≡ eqb b a
eqb_comm a b = agree _ _ (λ e. eq-eqb b a (sym (eqb-true a b e))) (λ e. eq-eqb a b (sym (eqb-true b a e)))

-- of different numbers c, as many are among vs as there are vs, where these are different too and all among c
pub count_in : (vs c : List ℕ) → distinct vs ≡ true → distinct c ≡ true → all (λ v. is_in v c) vs ≡ true → count (λ v. is_in v vs) c ≡ length vs
count_in vs c d e h =
    sym (sum_ones (λ v. is_in v vs) c)
    ∙ ap (λ f. sum f c) (fun_ext (λ v. sym (count-once v vs d)))
    ∙ count_swap eqb c vs
    ∙ sum-each (λ w. count (λ v. eqb v w) c) 1 vs (λ w g. ap (λ f. count f c) (fun_ext (λ v. eqb_comm v w)) ∙ count-once w c e ∙ ap (λ b. cond b 1 0) (all-at (λ v. is_in v c) vs h g))
    ∙ (let z : 1 * length vs ≡ length vs = omega arith in z)

-- ---- each tetrahedron on the corners holds four of their triples

module _ (c : List ℕ) (d : distinct c ≡ true) where
  four : (e : Tetrahedron) → is_on c e ≡ true → count (λ ks. holds (at c ks) e) (corner3 (length c)) ≡ 4
  unfolding is_on is_apart
  four e h =
      let vs = e.vertices in
      let a : is_apart e ≡ true = both_left _ _ h in
      let f = eqb-true (length vs) 4 (both_left _ _ a) in
      ap (λ g. count g (corner3 (length c))) (fun_ext (λ ks. all_map (λ k. get_or c k 0) (λ v. is_in v vs) ks))
      ∙ triples-count (λ k. is_in (get_or c k 0) vs) (length c)
      ∙ ap threes (sym (count_map (λ k. get_or c k 0) (λ v. is_in v vs) (up_to (length c))) ∙ ap (count (λ v. is_in v vs)) (at_all c) ∙ count_in vs c (both_right (eqb (length vs) 4) _ a) d (both_right (is_apart e) _ h) ∙ f)

-- the double count: by triples and by tetrahedra
pub counted : (c : List ℕ) (es : List Tetrahedron) → Counted c es
counted c es d h =
    count_swap (λ ks. holds (at c ks)) (corner3 (length c)) es
    ∙ sum-each (λ e. count (λ ks. holds (at c ks) e) (corner3 (length c))) 4 es (λ e g. four c d e (all-at (is_on c) es h g))

-- ---- the triples of a template face by face

-- one computed test: each triple of corners stands there once, its corners in some order
unfoldable pub same_corners : List ℕ → List ℕ → Bool
same_corners ks js = covers eqb ks js

pub faced : all (λ t. matches same_corners (corner3 t.corners) (triples_of t)) templates ≡ true
unfolding matches same_corners covers triples_of one_diagonal other_diagonal inside corner3 keep spread
faced = refl

-- 25 for kind 8, 8 for kind 6, 3 for kind 5
pub mosts : map most templates ≡ 25 ∷ 8 ∷ 3 ∷ []
unfolding most inside corner3 keep spread
mosts = refl

most_25 : all (λ t. leb (most t) 25) templates ≡ true
unfolding most inside corner3 keep spread
most_25 = refl

pub most-low : {t : Template} → Memᴰ t templates → most t ≤ 25
most-low {t} h = leb-true (most t) 25 (all-at (λ t. leb (most t) 25) templates most_25 h)

known_by : {t : Template} → Memᴰ t templates → template_of t.kind ≡ t
known_by (Memᴰ.head q) = ap (λ u. template_of u.kind) q ∙ sym q
known_by (Memᴰ.tail (Memᴰ.head q)) = ap (λ u. template_of u.kind) q ∙ sym q
known_by {t = t} (Memᴰ.tail (Memᴰ.tail (Memᴰ.tail x12))) = elim x12 [ ]
known_by (Memᴰ.tail (Memᴰ.tail (Memᴰ.head q))) = ap (λ u. template_of u.kind) q ∙ sym q

-- ---- what condition 5 permits, where g counts of how many tetrahedra a triple of corners is a facet

-- a diagonal has two triangles
two : (q : List ℕ) → (length (one_diagonal q) ≡ 2) × (length (other_diagonal q) ≡ 2)
unfolding one_diagonal other_diagonal
two q = (refl, refl)

module _ (g : List ℕ → ℕ) where
  sum-once : (xs : List (List ℕ)) → all (once g) xs ≡ true → sum g xs ≤ 1 * length xs
  unfolding one
  sum-once xs e = sum-most g 1 xs (λ ks h. omega (arith, eqb-true (g ks) 1 (all-at (once g) xs e h)))

  at_most_two : (n : ℕ) → none_or_two n ≡ true → n ≤ 2
  unfolding none_or_two
  at_most_two n e = or-either (eqb n 0) (eqb n 2) e (λ h. omega (arith, eqb-true n 0 h)) (λ h. omega (arith, eqb-true n 2 h))

  sum-paired : (xs : List (List ℕ)) → all (paired g) xs ≡ true → sum g xs ≤ 2 * length xs
  sum-paired xs e = sum-most g 2 xs (λ ks h. at_most_two (g ks) (all-at (paired g) xs e h))

  sum-covered : (q : List ℕ) → cells.covers g q ≡ true → sum g (one_diagonal q ++ other_diagonal q) ≤ 6
  sum-covered q e =
      let s = sum-append g (one_diagonal q) (other_diagonal q) in
      let l = two q in
      or-either (all (once g) (one_diagonal q) && all (paired g) (other_diagonal q)) (all (once g) (other_diagonal q) && all (paired g) (one_diagonal q)) e
      (λ h. omega (arith, s, l, sum-once (one_diagonal q) (both_left _ _ h), sum-paired (other_diagonal q) (both_right (all (once g) (one_diagonal q)) _ h)))
      (λ h. omega (arith, s, l, sum-once (other_diagonal q) (both_left _ _ h), sum-paired (one_diagonal q) (both_right (all (once g) (other_diagonal q)) _ h)))

  filled-sum : (t : Template) → fills g t.triangles t.quads (inside t) ≡ true → sum g (triples_of t) ≤ length t.triangles + 6 * length t.quads + 2 * length (inside t)
  unfolding triples_of
  filled-sum t e =
      let quads = spread (λ q. one_diagonal q ++ other_diagonal q) t.quads in
      let a = both_left (all (once g) t.triangles && all (cells.covers g) t.quads) _ e in
      omega (
        arith,
        sum-append g (t.triangles ++ quads) (inside t),
        sum-append g t.triangles quads,
        sum-spread g (λ q. one_diagonal q ++ other_diagonal q) t.quads,
        sum-once t.triangles (both_left _ _ a),
        sum-most (λ q. sum g (one_diagonal q ++ other_diagonal q)) 6 t.quads (λ q h. sum-covered q (all-at (cells.covers g) t.quads (both_right (all (once g) t.triangles) _ a) h)),
        sum-paired (inside t) (both_right (all (once g) t.triangles && all (cells.covers g) t.quads) _ e),
      )

-- ---- any tetrahedra on different corners that fill a template

module _ (c : List ℕ) (es : List Tetrahedron) where
  abbrev facets_of : List ℕ → ℕ
  facets_of = sides_of (λ e. e.vertices) es c

  sides-same : (ks js : List ℕ) → same_corners ks js ≡ true → facets_of ks ≡ facets_of js
  unfolding same_corners
  sides-same ks js e =
      ap (λ f. count f es) (fun_ext (λ b.
      all_map (λ k. get_or c k 0) (λ v. is_in v b.vertices) ks
      ∙ same-all (λ k. is_in (get_or c k 0) b.vertices) ks js e
      ∙ sym (all_map (λ k. get_or c k 0) (λ v. is_in v b.vertices) js)))

  pub few-fill : {t : Template} → Memᴰ t templates → length c ≡ t.corners → distinct c ≡ true → all (is_on c) es ≡ true → fills facets_of t.triangles t.quads (inside t) ≡ true → length es ≤ most t
  unfolding most
  few-fill {t} h l d o f =
      let s : sum facets_of (corner3 t.corners) ≡ 4 * length es = ap (λ k. sum facets_of (corner3 k)) (sym l) ∙ counted c es d o in
      let r = sum_over same_corners facets_of facets_of (corner3 t.corners) (triples_of t) sides-same (all-at (λ t. matches same_corners (corner3 t.corners) (triples_of t)) templates faced h) in
      omega (arith, s, r, filled-sum facets_of t f)

-- ---- the tuples of a mesh, and its cells

module _ (m : Mesh) (t : Template) (c : List ℕ) where
  -- the numbers of its tetrahedra are as many as these
  numbers-from : (i : ℕ) (es : List Tetrahedron) → length (numbers_from m t c i es) ≡ length (keep (belongs m t c) es)
  unfolding numbers_from keep
  numbers-from i [] = refl
  numbers-from i (e ∷ es) = go (belongs m t c e) (numbers-from (suc i) es)
    where
      go : (b : Bool) → length (numbers_from m t c (suc i) es) ≡ length (keep (belongs m t c) es) → length (cond b (i ∷ numbers_from m t c (suc i) es) (numbers_from m t c (suc i) es)) ≡ length (cond b (e ∷ keep (belongs m t c) es) (keep (belongs m t c) es))
      go true r = ap suc r
      go false r = r

  module _ (apart : all is_apart m.tets ≡ true) where
    on-corners : all (is_on c) (tets_of m t c) ≡ true
    unfolding tets_of belongs is_on
    on-corners = all_from (is_on c) (tets_of m t c) (λ e h. let k = keep_at (belongs m t c) m.tets h in both _ _ (all-at is_apart m.tets apart k.0) (both_left _ _ k.1))

    few-numbers : Memᴰ t templates → is_tuple m t c ≡ true → is_filled m t c ≡ true → length (numbers_of m t c) ≤ most t
    unfolding is_tuple is_filled is_filled_by sides numbers_of tets_of
    few-numbers h e f =
        let l : length c ≡ t.corners = eqb-true _ _ (both_left _ _ (both_left _ _ e)) in
        omega (arith, numbers-from 0 m.tets, few-fill c (tets_of m t c) h l (both_right (eqb (length c) t.corners && all (λ v. ltb v (length m.points)) c) _ e) on-corners f)

cell-filled : (m : Mesh) (t : Template) (c : List ℕ) → is_cell m t c ≡ true → (is_tuple m t c ≡ true) × (is_filled m t c ≡ true)
unfolding is_cell
cell-filled m t c e = go (is_tuple m t c) (has_edges m t c) (has_faces m t c) (is_sound m t c) (is_filled m t c) (is_one_part m t c) e
  where
    go : (a b d f g h : Bool) → (a && b && d && f && g && h) ≡ true → (a ≡ true) × (g ≡ true)
    go a b d f g h e =
        let u = both_left (a && b && d && f && g) h e in
        (both_left a b (both_left (a && b) d (both_left (a && b && d) f (both_left (a && b && d && f) g u))), both_right (a && b && d && f) g u)

module _ (m : Mesh) (apart : all is_apart m.tets ≡ true) where
  few-listed : {d : Cell} → Memᴰ d (full_list m) → (length d.tets ≤ most (template_of d.kind)) × (length d.tets ≤ 25)
  unfolding full_list cells_of
  few-listed {d} h =
      let x = spread_at (cells_of m) templates h in
      let t = x.0 in
      let y = map_at (cell_in m t) (keep (is_cell m t) (universe (length m.points) t)) x.2 in
      let k = cell-filled m t y.0 (keep_at (is_cell m t) (universe (length m.points) t) y.1).1 in
      let l = few-numbers m t y.0 apart x.1 k.0 k.1 in
      let q = ap (λ (c : Cell). length c.tets) y.2 in
      let u : most (template_of d.kind) ≡ most t = ap (λ (c : Cell). most (template_of c.kind)) y.2 ∙ ap most (known_by x.1) in
      (omega arith, omega (arith, most-low x.1))

  pub few : Few m
  few = record { numbers = λ {t} h c e f. few-numbers m t c apart h e f; mosts = mosts; listed = few-listed }

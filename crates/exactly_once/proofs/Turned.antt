-- A turn of a tuple: conditions 1 to 6 and the tetrahedra are the same.
-- Shown once for every row that passes one computed test.
-- Assumes nothing.
use Prim.Native.Nat.{ℕ, suc}
use mathlib.Core.Path.{◌≡◌, refl, sym, ◌∙◌, ap, ap₂, fun_ext}
use mathlib.Core.Bool.{Bool, true, not, ◌&&◌, ◌||◌}
use mathlib.Core.List.{List, [], ◌∷◌, Memᴰ}
use lib.Dec.{eqb}
use lib.IntN.{ℤ, neg_ℤ}
use lib.ListN.{length, get_or}
use Rattle.base.specs.Lists.{all, any, every, keep, count, spread, is_in, equal}
use Rattle.base.proofs.Bools.{or-either}
use Rattle.base.proofs.Lists.{both_left, both_right, all-at, any_at}
use Rattle.space.specs.declared.Point.{Point}
use Rattle.space.specs.Box.{from_to, box, is_above0}
use Rattle.space.specs.Mesh.{Mesh, Tetrahedron, point, holds, together}
use Rattle.space.proofs.Det.{det-on, det_swap}
use Rattle.templates.specs.Tables.{Template, templates, at}
use Rattle.templates.proofs.Tests.{equal_eq, part, or_comm, covers, all_over, any_over, in_range, at_at}
use Rattle.least.proofs.Turns.{goes_to, corner_to, even, odd, corner_tests, table_tests, keeps, row_keeps, row-corners, goes_all, goes_any, size, corners-all, corners-any, turned-length, turned-distinct}
use Rattle.cells.specs.Cells.{one_diagonal, other_diagonal, corner3, inside, one, none_or_two, is_tuple, has_edges, is_facet, is_split, has_faces, box_at, is_sound, belongs, tets_of, numbers_from, numbers_of, sides, is_once, is_paired, is_covered, is_filled_by, is_filled, is_one_part, is_cell}
use Rattle.exactly_once.specs.Turned.{Same}

-- ---- the test of a row, for what condition 5 says of faces

-- a quadrilateral to a quadrilateral: each diagonal's two triangles to a diagonal's two
unfoldable pub quad_to : List ℕ → List ℕ → List ℕ → Bool
quad_to r q p =
    covers (goes_to r) (one_diagonal q) (one_diagonal p) && covers (goes_to r) (other_diagonal q) (other_diagonal p)
    || (covers (goes_to r) (one_diagonal q) (other_diagonal p) && covers (goes_to r) (other_diagonal q) (one_diagonal p))

-- quadrilaterals to quadrilaterals, and the triples on no face to such triples
unfoldable pub face_tests : Template → List ℕ → List Bool
face_tests t r = covers (quad_to r) t.quads t.quads ∷ covers (goes_to r) (inside t) (inside t) ∷ []

pub faces : all (λ t. all (λ r. every (face_tests t r)) t.turns) templates ≡ true
unfolding face_tests covers goes_to quad_to one_diagonal other_diagonal inside corner3 keep spread
faces = refl

-- ---- what a row takes to one another

module _ (r c : List ℕ) where
  goes_holds : (ks js : List ℕ) → goes_to r ks js ≡ true → holds (at (at c r) ks) ≡ holds (at c js)
  goes_holds ks js e = fun_ext (λ b. goes_all r c ks js e (λ v. is_in v b.vertices))

  goes_together : (m : Mesh) (ks js : List ℕ) → goes_to r ks js ≡ true → together m (at (at c r) ks) ≡ together m (at c js)
  unfolding together
  goes_together m ks js e = ap (λ f. any f m.tets) (goes_holds ks js e)

-- the box at a corner: one neighbour on, and two neighbours exchanged
on : (p q r s : Point) → box p q r s ≡ box p r s q
unfolding box
on p q r s = det-on (from_to p q) (from_to p r) (from_to p s)

swap : (p q r s : Point) → box p q r s ≡ neg_ℤ (box p r q s)
unfolding box
swap p q r s = det_swap (from_to p r) (from_to p q) (from_to p s)

module _ (m : Mesh) (c a : List ℕ) where
  v : ℕ → Point
  v k = point m (get_or c (get_or a k 0) 0)

  -- the box at the corners of a, in another order
  abbrev by : List ℕ → ℤ
  by p = box_at m (at c (at a p))

  even_box : (p : List ℕ) → Memᴰ p even → by (0 ∷ 1 ∷ 2 ∷ 3 ∷ []) ≡ by p
  unfolding box_at v
  even_box p (Memᴰ.head q) = ap by (sym q)
  even_box p (Memᴰ.tail (Memᴰ.head q)) = on (v 0) (v 1) (v 2) (v 3) ∙ ap by (sym q)
  even_box p (Memᴰ.tail (Memᴰ.tail (Memᴰ.tail x12))) = elim x12 [ ]
  even_box p (Memᴰ.tail (Memᴰ.tail (Memᴰ.head q))) = on (v 0) (v 1) (v 2) (v 3) ∙ on (v 0) (v 2) (v 3) (v 1) ∙ ap by (sym q)

  odd-box : (p : List ℕ) → Memᴰ p odd → by (0 ∷ 1 ∷ 2 ∷ 3 ∷ []) ≡ neg_ℤ (by p)
  unfolding box_at v
  odd-box p (Memᴰ.head q) = swap (v 0) (v 1) (v 2) (v 3) ∙ ap (λ p. neg_ℤ (by p)) (sym q)
  odd-box p (Memᴰ.tail (Memᴰ.head q)) = swap (v 0) (v 1) (v 2) (v 3) ∙ ap neg_ℤ (on (v 0) (v 2) (v 1) (v 3) ∙ ap by (sym q))
  odd-box p (Memᴰ.tail (Memᴰ.tail (Memᴰ.tail x12))) = elim x12 [ ]
  odd-box p (Memᴰ.tail (Memᴰ.tail (Memᴰ.head q))) = swap (v 0) (v 1) (v 2) (v 3) ∙ ap neg_ℤ (on (v 0) (v 2) (v 1) (v 3) ∙ on (v 0) (v 1) (v 3) (v 2) ∙ ap by (sym q))

module _ (r c : List ℕ) (m : Mesh) (ks js : List ℕ) where
  -- f is what the exchanges ps do to the box
  corner-box : (ps : List (List ℕ)) (f : ℤ → ℤ) → ((p : List ℕ) → Memᴰ p ps → by m c (at r ks) (0 ∷ 1 ∷ 2 ∷ 3 ∷ []) ≡ f (by m c (at r ks) p)) → corner_to ps r ks js ≡ true → box_at m (at (at c r) ks) ≡ f (box_at m (at c js))
  unfolding corner_to
  corner-box ps f b e =
      let a = at r ks in
      let tests = in_range (length r) ks ∷ equal (at a (0 ∷ 1 ∷ 2 ∷ 3 ∷ [])) a ∷ any (λ p. equal (at a p) js) ps ∷ [] in
      let w = any_at (λ p. equal (at a p) js) ps (part tests e 2) in
      ap (box_at m) (at_at c r ks (part tests e 0))
      ∙ ap (λ x. box_at m (at c x)) (sym (equal_eq (at a (0 ∷ 1 ∷ 2 ∷ 3 ∷ [])) a (part tests e 1)))
      ∙ b w.0 w.1
      ∙ ap (λ x. f (box_at m (at c x))) (equal_eq (at a w.0) js w.2)

  goes_box : corner_to even r ks js ≡ true → box_at m (at (at c r) ks) ≡ box_at m (at c js)
  goes_box = corner-box even (λ x. x) (even_box m c (at r ks))

  pub mirror-at : corner_to odd r ks js ≡ true → box_at m (at (at c r) ks) ≡ neg_ℤ (box_at m (at c js))
  mirror-at = corner-box odd neg_ℤ (odd-box m c (at r ks))

-- ---- conditions 1 to 6

module _ (t : Template) (r c : List ℕ) (k : keeps t r ≡ true) (g : every (face_tests t r) ≡ true) (l : length c ≡ t.corners) where
  corners : every (corner_tests t r) ≡ true
  corners = row-corners t r k

  module _ (m : Mesh) where
    pub turned-tuple : is_tuple m t (at c r) ≡ is_tuple m t c
    unfolding is_tuple
    turned-tuple =
        let a : length (at c r) ≡ length c = turned-length t r c corners l ∙ size t r c corners l ∙ sym l in
        rw (a, corners-all t r c corners l, turned-distinct t r c corners l)

    -- 2
    pub turned-edges : has_edges m t (at c r) ≡ has_edges m t c
    unfolding has_edges keeps table_tests
    turned-edges =
        all_over (goes_to r) _ _ t.edges t.edges (goes_together r c m)
        (part (table_tests even t r) k 1)

    -- 3
    facets : (xs ys : List (List ℕ)) → covers (goes_to r) xs ys ≡ true → all (is_facet m t (at c r)) xs ≡ all (is_facet m t c) ys
    unfolding is_facet
    facets xs ys e = all_over (goes_to r) _ _ xs ys (goes_together r c m) e

    -- a test of the two diagonals of a quadrilateral, whichever comes first
    diagonals : {X : Type 0} (f : X → X → Bool) → ((x y : X) → f x y ≡ f y x) → (g h : List (List ℕ) → X) → ((xs ys : List (List ℕ)) → covers (goes_to r) xs ys ≡ true → g xs ≡ h ys) → (q p : List ℕ) → quad_to r q p ≡ true → f (g (one_diagonal q)) (g (other_diagonal q)) ≡ f (h (one_diagonal p)) (h (other_diagonal p))
    unfolding quad_to
    diagonals f s g h w q p e =
        or-either (covers (goes_to r) (one_diagonal q) (one_diagonal p) && covers (goes_to r) (other_diagonal q) (other_diagonal p)) _ e
        (λ z. ap₂ f (w _ _ (both_left (covers (goes_to r) (one_diagonal q) (one_diagonal p)) _ z)) (w _ _ (both_right (covers (goes_to r) (one_diagonal q) (one_diagonal p)) _ z)))
        (λ z. ap₂ f (w _ _ (both_left (covers (goes_to r) (one_diagonal q) (other_diagonal p)) _ z)) (w _ _ (both_right (covers (goes_to r) (one_diagonal q) (other_diagonal p)) _ z)) ∙ s _ _)

    triangles : covers (goes_to r) t.triangles t.triangles ≡ true
    unfolding keeps table_tests
    triangles = part (table_tests even t r) k 2

    quads : covers (quad_to r) t.quads t.quads ≡ true
    unfolding face_tests
    quads = part (face_tests t r) g 0

    pub turned-faces : has_faces m t (at c r) ≡ has_faces m t c
    unfolding has_faces is_split
    turned-faces =
        ap₂ (λ a b. a && b) (facets _ _ triangles)
        (all_over (quad_to r) _ _ t.quads t.quads (diagonals (λ a b. a || b) or_comm (all (is_facet m t (at c r))) (all (is_facet m t c)) facets) quads)

    -- its tetrahedra
    turned-belongs : (b : Tetrahedron) → belongs m t (at c r) b ≡ belongs m t c b
    unfolding belongs keeps table_tests
    turned-belongs b =
        ap₂ (λ x y. x && not y)
        (ap (λ f. all f b.vertices) (fun_ext (λ v. corners-any t r c corners l (eqb v))))
        (any_over (goes_to r) _ _ t.quads t.quads
        (λ q p e. ap (λ f. all f b.vertices) (fun_ext (λ v. goes_any r c q p e (eqb v))))
        (part (table_tests even t r) k 3))

    pub turned-tets : tets_of m t (at c r) ≡ tets_of m t c
    unfolding tets_of
    turned-tets = ap (λ f. keep f m.tets) (fun_ext turned-belongs)

    numbers-from : (i : ℕ) (es : List Tetrahedron) → numbers_from m t (at c r) i es ≡ numbers_from m t c i es
    unfolding numbers_from
    numbers-from i [] = refl
    numbers-from i (b ∷ es) = rw (turned-belongs b, numbers-from (suc i) es)

    pub turned-numbers : numbers_of m t (at c r) ≡ numbers_of m t c
    unfolding numbers_of
    turned-numbers = numbers-from 0 m.tets

    -- 4
    pub turned-sound : is_sound m t (at c r) ≡ is_sound m t c
    unfolding is_sound keeps table_tests
    turned-sound =
        all_over (corner_to even r) _ _ t.triples t.triples (λ ks js e. ap is_above0 (goes_box r c m ks js e))
        (part (table_tests even t r) k 4)

    -- 5
    turned-sides : (ks js : List ℕ) → goes_to r ks js ≡ true → sides m t (at c r) ks ≡ sides m t c js
    unfolding sides
    turned-sides ks js e = ap₂ (λ f es. count f es) (goes_holds r c ks js e) turned-tets

    onces : (xs ys : List (List ℕ)) → covers (goes_to r) xs ys ≡ true → all (is_once m t (at c r)) xs ≡ all (is_once m t c) ys
    unfolding is_once
    onces xs ys e = all_over (goes_to r) _ _ xs ys (λ ks js q. ap one (turned-sides ks js q)) e

    pairs : (xs ys : List (List ℕ)) → covers (goes_to r) xs ys ≡ true → all (is_paired m t (at c r)) xs ≡ all (is_paired m t c) ys
    unfolding is_paired
    pairs xs ys e = all_over (goes_to r) _ _ xs ys (λ ks js q. ap none_or_two (turned-sides ks js q)) e

    pub turned-filled : is_filled m t (at c r) ≡ is_filled m t c
    unfolding is_filled is_filled_by is_once is_paired is_covered face_tests
    turned-filled =
        ap₂ (λ a b. a && b)
        (ap₂ (λ a b. a && b) (onces _ _ triangles)
        (all_over (quad_to r) _ _ t.quads t.quads
        (diagonals {X = Bool × Bool} (λ x y. x.0 && y.1 || (y.0 && x.1)) (λ x y. or_comm (x.0 && y.1) (y.0 && x.1))
        (λ xs. (all (is_once m t (at c r)) xs, all (is_paired m t (at c r)) xs)) (λ xs. (all (is_once m t c) xs, all (is_paired m t c) xs))
        (λ xs ys e i. (onces xs ys e i, pairs xs ys e i))) quads))
        (pairs _ _ (part (face_tests t r) g 1))

    -- 6
    pub turned-part : is_one_part m t (at c r) ≡ is_one_part m t c
    unfolding is_one_part
    turned-part = ap (λ es. all (λ e. all (λ f. eqb e.part f.part) es) es) turned-tets

    pub turned-cell : is_cell m t (at c r) ≡ is_cell m t c
    unfolding is_cell
    turned-cell = rw (turned-tuple, turned-edges, turned-faces, turned-sound, turned-filled, turned-part)

-- ---- each rotation of each kind

-- each of conditions 1 to 6 has the same truth at every turn of a tuple, and its tetrahedra are the same
pub same : (m : Mesh) {t : Template} {r : List ℕ} → Memᴰ t templates → Memᴰ r t.turns → (c : List ℕ) → length c ≡ t.corners → Same m t (at c r) c
same m {t} {r} h j c l =
    let k = row_keeps h j in
    let g = all-at (λ r. every (face_tests t r)) t.turns (all-at (λ t. all (λ r. every (face_tests t r)) t.turns) templates faces h) j in
    record {
      tuple = turned-tuple t r c k g l m;
      edges = turned-edges t r c k g l m;
      faces = turned-faces t r c k g l m;
      sound = turned-sound t r c k g l m;
      filled = turned-filled t r c k g l m;
      one_part = turned-part t r c k g l m;
      cell = turned-cell t r c k g l m;
      tets = turned-tets t r c k g l m;
      numbers = turned-numbers t r c k g l m;
    }

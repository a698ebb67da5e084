-- When a tuple is a cell: conditions 1 to 6. A tuple is the list of its corners' vertices, in letter order.
-- Each condition stands first over what it looks at, rows of corners, points, tetrahedra or counts,
-- and then of a mesh and a template.
-- Assumes nothing.
use Rattle.std.specs.Prelude.{ℕ, suc, Bool, not, cond, ◌&&◌, ◌||◌, List, [], ◌∷◌, ◌++◌, map, eqb, ltb, length, get_or, ℤ}
use Rattle.base.specs.Lists.{all, any, keep, count, up_to, spread, is_in, distinct}
use Rattle.space.specs.declared.Point.{Point}
use Rattle.space.specs.Box.{box, is_above0}
use Rattle.space.specs.Mesh.{Mesh, Tetrahedron, origin, together}
use Rattle.templates.specs.Tables.{Template, at}

-- the two triangles of a quadrilateral's one diagonal, and of its other
unfoldable pub one_diagonal : List ℕ → List (List ℕ)
one_diagonal q = at q (0 ∷ 1 ∷ 2 ∷ []) ∷ at q (0 ∷ 2 ∷ 3 ∷ []) ∷ []

unfoldable pub other_diagonal : List ℕ → List (List ℕ)
other_diagonal q = at q (0 ∷ 1 ∷ 3 ∷ []) ∷ at q (1 ∷ 2 ∷ 3 ∷ []) ∷ []

-- the triples of k corners, rising
unfoldable pub corner3 : ℕ → List (List ℕ)
corner3 k =
    keep (λ ks. ltb (get_or ks 0 0) (get_or ks 1 0) && ltb (get_or ks 1 0) (get_or ks 2 0))
    (spread (λ i. spread (λ j. map (λ l. i ∷ j ∷ l ∷ []) (up_to k)) (up_to k)) (up_to k))

-- the triples that lie on no face
unfoldable pub inside : Template → List (List ℕ)
inside t = keep (λ ks. not (any (λ f. all (λ k. is_in k f) ks) (t.triangles ++ t.quads))) (corner3 t.corners)

-- of how many a triangle on the boundary is a facet, and any other
unfoldable pub one : ℕ → Bool
one k = eqb k 1

unfoldable pub none_or_two : ℕ → Bool
none_or_two k = eqb k 0 || eqb k 2

-- ---- the conditions by what they look at

-- 1: k different vertices below n
abbrev pub are_corners : ℕ → ℕ → List ℕ → Bool
are_corners n k c = eqb (length c) k && all (λ v. ltb v n) c && distinct c

-- 2: the vertices at each of these pairs of corners stand together, where j says which do
abbrev pub all_joined : (List ℕ → Bool) → List ℕ → List (List ℕ) → Bool
all_joined j c es = all (λ ks. j (at c ks)) es

-- 3, where f says which triples of corners are facets
module _ (f : List ℕ → Bool) where
  -- both triangles of a diagonal of a quadrilateral are
  abbrev pub splits : List ℕ → Bool
  splits q = all f (one_diagonal q) || all f (other_diagonal q)

  abbrev pub all_faces : List (List ℕ) → List (List ℕ) → Bool
  all_faces ts qs = all f ts && all splits qs

-- the box of four vertices, among these points
abbrev pub box_of : List Point → List ℕ → ℤ
box_of ps vs =
    box (get_or ps (get_or vs 0 0) origin) (get_or ps (get_or vs 1 0) origin) (get_or ps (get_or vs 2 0) origin) (get_or ps (get_or vs 3 0) origin)

-- 4: the boxes at these rows of a corner and its neighbours are above 0, where b tells the box of four vertices
abbrev pub boxes_above : (List ℕ → ℤ) → List ℕ → List (List ℕ) → Bool
boxes_above b c rows = all (λ ks. is_above0 (b (at c ks))) rows

-- a tetrahedron with the vertices vs is the cell's: all are corners of it, and they are not one of these quadrilaterals
abbrev pub is_own : List (List ℕ) → List ℕ → List ℕ → Bool
is_own qs c vs = all (λ v. is_in v c) vs && not (any (λ q. all (λ v. is_in v (at c q)) vs) qs)

-- of how many of these tetrahedra the corners ks are vertices; `of` tells the vertices of one
abbrev pub sides_of : {A : Type 0} → (A → List ℕ) → List A → List ℕ → List ℕ → ℕ
sides_of of es c ks = count (λ e. all (λ v. is_in v (of e)) (at c ks)) es

-- 5, where g counts of how many of the cell's tetrahedra a triple of corners is a facet
module _ (g : List ℕ → ℕ) where
  abbrev pub once : List ℕ → Bool
  once ks = one (g ks)

  abbrev pub paired : List ℕ → Bool
  paired ks = none_or_two (g ks)

  -- a quadrilateral is covered by the triangles of exactly one of its diagonals
  abbrev pub covers : List ℕ → Bool
  covers q = all once (one_diagonal q) && all paired (other_diagonal q) || (all once (other_diagonal q) && all paired (one_diagonal q))

  -- ts are the triangles, qs the quadrilaterals and ws the triples on no face
  abbrev pub fills : List (List ℕ) → List (List ℕ) → List (List ℕ) → Bool
  fills ts qs ws = all once ts && all covers qs && all paired ws

-- 6: these have one number by f
abbrev pub all_agree : {A : Type 0} → (A → ℕ) → List A → Bool
all_agree f es = all (λ d. all (λ e. eqb (f d) (f e)) es) es

-- ---- the same of a mesh and a template

-- the box of four vertices
unfoldable pub box_at : Mesh → List ℕ → ℤ
box_at m vs = box_of m.points vs

module _ (m : Mesh) (t : Template) (c : List ℕ) where
  -- 1: distinct vertices of the mesh
  unfoldable pub is_tuple : Bool
  is_tuple = are_corners (length m.points) t.corners c

  -- 2: every edge is a mesh edge
  unfoldable pub has_edges : Bool
  has_edges = all_joined (together m) c t.edges

  -- 3: every triangle is a facet, and both triangles of a diagonal of every quadrilateral
  unfoldable pub is_facet : List ℕ → Bool
  is_facet ks = together m (at c ks)

  unfoldable pub is_split : List ℕ → Bool
  is_split q = splits is_facet q

  unfoldable pub has_faces : Bool
  has_faces = all_faces is_facet t.triangles t.quads

  -- 4: the box at every corner triple is above 0
  unfoldable pub is_sound : Bool
  is_sound = boxes_above (box_at m) c t.triples

  -- its tetrahedra, and their numbers: all four vertices are corners of it, and are not one quadrilateral
  unfoldable pub belongs : Tetrahedron → Bool
  belongs e = is_own t.quads c e.vertices

  unfoldable pub tets_of : List Tetrahedron
  tets_of = keep belongs m.tets

  -- counted from i
  unfoldable pub numbers_from : ℕ → List Tetrahedron → List ℕ
  numbers_from i [] = []
  numbers_from i (e ∷ es) = let r = numbers_from (suc i) es in cond (belongs e) (i ∷ r) r

  unfoldable pub numbers_of : List ℕ
  numbers_of = numbers_from 0 m.tets

  -- 5: its tetrahedra fill it: of how many of them a triple of corners is a facet
  unfoldable pub sides : List ℕ → ℕ
  sides ks = sides_of (λ e. e.vertices) tets_of c ks

  unfoldable pub is_once : List ℕ → Bool
  is_once ks = once sides ks

  unfoldable pub is_paired : List ℕ → Bool
  is_paired ks = paired sides ks

  unfoldable pub is_covered : List ℕ → Bool
  is_covered q = covers sides q

  -- where ks are the triples on no face
  unfoldable pub is_filled_by : List (List ℕ) → Bool
  is_filled_by ks = fills sides t.triangles t.quads ks

  unfoldable pub is_filled : Bool
  is_filled = is_filled_by (inside t)

  -- 6: its tetrahedra have one part number
  unfoldable pub is_one_part : Bool
  is_one_part = all_agree (λ e. e.part) tets_of

  unfoldable pub is_cell : Bool
  is_cell = is_tuple && has_edges && has_faces && is_sound && is_filled && is_one_part

  -- the first condition that fails; 0 of a cell
  unfoldable pub first_failing : ℕ
  first_failing =
      cond is_tuple (cond has_edges (cond has_faces (cond is_sound (cond is_filled (cond is_one_part 0 6) 5) 4) 3) 2) 1

-- Why a tuple is not a cell: the first condition that fails, and where it fails.
-- Of a table that is its first row that fails, counted from 0; of triples that offend, the least.
-- Assumes nothing.
use Rattle.std.specs.Prelude.{ℕ, Bool, not, cond, ◌&&◌, List, [], ◌∷◌, ◌++◌, map, eqb, ltb, length, get_or, take}
use Rattle.base.specs.Lists.{all, keep, up_to, spread, is_in}
use Rattle.space.specs.Box.{is_above0}
use Rattle.space.specs.Mesh.{Mesh, together}
use Rattle.portions.specs.Portions.{before}
use Rattle.templates.specs.Tables.{Template, template_of, tuple_of, at}
use Rattle.least.specs.Least.{is_least}
use Rattle.turning.specs.Form.{least_by}
use Rattle.cells.specs.Cells.{one_diagonal, other_diagonal, inside, splits, once, paired, box_at, is_facet, sides, first_failing}
use Rattle.reasons.specs.declared.Finding.{Finding}
use Rattle.reasons.specs.declared.Finding.TheVariants.{Cell, Turned, BadCorner, NoEdge, NoFace, BadBox, OpenFace, OpenTriple, TwoParts}
use Rattle.reasons.specs.First.{first_fail}

-- ---- condition 1

-- the vertex at place i of c is below n and stands at no earlier place
unfoldable pub is_new : ℕ → List ℕ → ℕ → Bool
is_new n c i = ltb (get_or c i 0) n && not (is_in (get_or c i 0) (take i c))

-- ---- the faces, triangles first

pub data Face : Type 0 where
  triangle : List ℕ → Face
  quad : List ℕ → Face

abbrev pub faces_by : List (List ℕ) → List (List ℕ) → List Face
faces_by ts qs = map triangle ts ++ map quad qs

abbrev pub faces : Template → List Face
faces t = faces_by t.triangles t.quads

-- condition 3, where f says which triples of corners are facets
unfoldable pub is_there : (List ℕ → Bool) → Face → Bool
is_there f (triangle ks) = f ks
is_there f (quad q) = splits f q

-- ---- condition 5, where g counts of how many of the cell's tetrahedra a triple of corners is a facet

module _ (g : List ℕ → ℕ) where
  -- both triangles of exactly one diagonal are facets of exactly one
  abbrev pub halves : List ℕ → Bool
  halves q = let b = all (once g) (other_diagonal q) in cond (all (once g) (one_diagonal q)) (not b) b

  -- the face does not offend
  unfoldable pub is_closed : Face → Bool
  is_closed (triangle ks) = once g ks
  is_closed (quad q) = halves q

  -- the triangles of a quadrilateral's other diagonal
  unfoldable pub across : List ℕ → List (List ℕ)
  across q = cond (all (once g) (one_diagonal q)) (other_diagonal q) (one_diagonal q)

  -- all other triples, where ws are those on no face and qs the quadrilaterals
  abbrev pub others : List (List ℕ) → List (List ℕ) → List (List ℕ)
  others ws qs = ws ++ spread across qs

-- the same numbers, rising
abbrev pub insert : ℕ → List ℕ → List ℕ
insert x [] = x ∷ []
insert x (y ∷ ys) = let r = insert x ys in cond (ltb y x) (y ∷ r) (x ∷ y ∷ ys)

abbrev pub rising : List ℕ → List ℕ
rising [] = []
rising (x ∷ xs) = insert x (rising xs)

-- of these triples of corners of c, the vertices of those that offend, each rising
unfoldable pub offending : (List ℕ → ℕ) → List ℕ → List (List ℕ) → List (List ℕ)
offending g c ks = map (λ ks. rising (at c ks)) (keep (λ ks. not (paired g ks)) ks)

-- the lesser of two, where nothing counts as the greatest; and the least of these and of x
abbrev pub lesser_of : List ℕ → List ℕ → List ℕ
lesser_of [] y = y
lesser_of (x ∷ xs) y = cond (before y (x ∷ xs)) y (x ∷ xs)

abbrev pub least_from : List ℕ → List (List ℕ) → List ℕ
least_from x [] = x
least_from x (y ∷ ys) = least_from (lesser_of x y) ys

-- ---- findings by a list of numbers

abbrev pub cell_by : List ℕ → Finding
cell_by xs =
    Cell (get_or xs 0 0) (get_or xs 1 0) (get_or xs 2 0) (get_or xs 3 0) (get_or xs 4 0) (get_or xs 5 0) (get_or xs 6 0) (get_or xs 7 0)

abbrev pub turned_by : List ℕ → Finding
turned_by xs =
    Turned (get_or xs 0 0) (get_or xs 1 0) (get_or xs 2 0) (get_or xs 3 0) (get_or xs 4 0) (get_or xs 5 0) (get_or xs 6 0) (get_or xs 7 0)

abbrev pub triple_by : List ℕ → Finding
triple_by xs = OpenTriple (get_or xs 0 0) (get_or xs 1 0) (get_or xs 2 0)

-- ---- what is found

-- the turn of c that is in least form
unfoldable pub least_turn : Template → List ℕ → List ℕ
least_turn t c = least_by t.turns t.less c

-- a cell, with its least form
unfoldable pub found_cell : Template → List ℕ → Finding
found_cell t c = cond (is_least t c) (cell_by (least_turn t c)) (turned_by (least_turn t c))

-- where condition 5 fails: the first face that offends, else the least of the other triples that do; fs are the faces
unfoldable pub found_open : (List ℕ → ℕ) → List ℕ → List Face → List (List ℕ) → Finding
found_open g c fs ks = cond (all (is_closed g) fs) (triple_by (least_from [] (offending g c ks))) (OpenFace (first_fail (is_closed g) fs))

module _ (m : Mesh) (t : Template) (c : List ℕ) where
  -- where k is the first condition that fails, or 0
  unfoldable pub finding_at : ℕ → Finding
  finding_at k =
      let g = sides m t c in
      cond (eqb k 0) (found_cell t c)
      (cond (eqb k 1) (BadCorner (first_fail (is_new (length m.points) c) (up_to t.corners)))
      (cond (eqb k 2) (NoEdge (first_fail (λ ks. together m (at c ks)) t.edges))
      (cond (eqb k 3) (NoFace (first_fail (is_there (is_facet m t c)) (faces t)))
      (cond (eqb k 4) (BadBox (first_fail (λ ks. is_above0 (box_at m (at c ks))) t.triples))
      (cond (eqb k 5) (found_open g c (faces t) (others g (inside t) t.quads)) TwoParts)))))

  unfoldable pub finding : Finding
  finding = finding_at (first_failing m t c)

-- for a kind and eight numbers, of which the first count, as many as the kind has corners
unfoldable pub finding_of : Mesh → ℕ → List ℕ → Finding
finding_of m k vs = finding m (template_of k) (tuple_of k vs)

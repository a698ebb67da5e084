-- What the conditions look at as the code has it: tables laid flat, triangles in threes,
-- quadrilaterals and corner triples in fours; points and tetrahedra in the mesh's arrays.
-- Assumes nothing.
use Rattle.std.specs.Prelude.{ℕ, ◌+◌, ◌*◌, ◌/◌, Bool, List, [], ◌∷◌, map, ℤ, length, get_or}
use Rattle.base.specs.Lists.{keep, up_to}
use Rattle.space.specs.declared.Point.{Point}
use Rattle.space.specs.Arrays.{point_at, row4}
use Rattle.tets_around.specs.Sharing.{together_in}
use Rattle.templates.specs.Tables.{at}
use Rattle.cells.specs.Cells.{box_of, boxes_above, is_own, sides_of, fills}

-- row i of a table of threes
abbrev pub row3 : List ℕ → ℕ → List ℕ
row3 xs i = get_or xs (3 * i) 0 ∷ get_or xs (3 * i + 1) 0 ∷ get_or xs (3 * i + 2) 0 ∷ []

-- a table's rows
abbrev pub threes : List ℕ → List (List ℕ)
threes xs = map (row3 xs) (up_to (length xs / 3))

abbrev pub fours : List ℕ → List (List ℕ)
fours xs = map (row4 xs) (up_to (length xs / 4))

-- the points of these coordinates
abbrev pub points_of : List ℤ → List Point
points_of zs = map (point_at zs) (up_to (length zs / 3))

-- 4 at these rows of a corner and its neighbours, by the coordinates
abbrev pub sound_by : List ℤ → List ℕ → List (List ℕ) → Bool
sound_by zs c rows = boxes_above (box_of (points_of zs)) c rows

-- some tetrahedron has the corners ks of c
abbrev pub facet_in : List ℕ → List ℕ → List ℕ → Bool
facet_in ls c ks = together_in ls (at c ks)

-- tetrahedron i is one of the cell on the corners c, where qs are its quadrilaterals; and the numbers of these, rising
unfoldable pub owns : List ℕ → List (List ℕ) → List ℕ → ℕ → Bool
owns ls qs c i = is_own qs c (row4 ls i)

unfoldable pub own_numbers : List ℕ → List (List ℕ) → List ℕ → List ℕ
own_numbers ls qs c = keep (owns ls qs c) (up_to (length ls / 4))

-- the same where the quadrilaterals are laid flat
abbrev pub owns_by : List ℕ → List ℕ → List ℕ → ℕ → Bool
owns_by ls qs c = owns ls (fours qs) c

abbrev pub own_numbers_by : List ℕ → List ℕ → List ℕ → List ℕ
own_numbers_by ls qs c = own_numbers ls (fours qs) c

-- 5 by tables laid flat, ts the triangles, qs the quadrilaterals and ws the triples on no face:
-- as g counts, and of the tetrahedra xs
abbrev pub fills_by : (List ℕ → ℕ) → List ℕ → List ℕ → List ℕ → Bool
fills_by g ts qs ws = fills g (threes ts) (fours qs) (threes ws)

abbrev pub fills_with : List ℕ → List ℕ → List ℕ → List ℕ → List ℕ → List ℕ → Bool
fills_with ls xs c ts qs ws = fills_by (sides_of (row4 ls) xs c) ts qs ws

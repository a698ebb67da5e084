-- Why tuples are not cells, asked of files: the rows. Each shows too that its file is accepted, or how it is refused.
-- Assumes nothing.
use Rattle.std.specs.Prelude.{ℕ, List, [], ◌∷◌, Ok, Err}
use Rattle.refusals.specs.Named.{named}
use Rattle.reasons.specs.declared.Finding.{Finding}
use Rattle.reasons.specs.declared.Finding.TheVariants.{Cell, Turned, BadCorner, NoEdge, NoFace, BadBox, OpenFace, OpenTriple, TwoParts}
use Rattle.worked.specs.Files.{vertex, joins, file, cube_with, fan, file_p, file_c, mixed, turned}
use Rattle.worked.specs.Questions.{asking, reasoned, Row, row}

-- ---- files besides those of P and C

-- tetrahedra that have all edges of the pyramid 0 1 2 3 4, and neither its triangle 0 3 4 nor its base
abbrev pub wired : List ℕ
wired =
    file
    (vertex 0 0 0 ∷ vertex 2 0 0 ∷ vertex 2 2 0 ∷ vertex 0 2 0 ∷ vertex 0 0 2 ∷ vertex 2 0 1 ∷ [])
    (joins 3 5 2 4 ∷ joins 1 5 3 0 ∷ joins 1 2 0 4 ∷ [])

-- the cube of side 4 with one vertex more, 8, and these tetrahedra in the place of the one at corner 6
abbrev pub cut : List ℕ → List (List ℕ) → List ℕ
cut v ts =
    file
    (vertex 0 0 0 ∷ vertex 4 0 0 ∷ vertex 4 4 0 ∷ vertex 0 4 0 ∷ vertex 0 0 4 ∷ vertex 4 0 4 ∷ vertex 4 4 4 ∷ vertex 0 4 4 ∷ v ∷ [])
    (joins 0 1 2 5 ∷ joins 0 2 3 7 ∷ joins 0 5 7 4 ∷ joins 0 5 2 7 ∷ ts)

-- with 8 on the facet 2 5 6, which then is none; and with 8 inside, so that 2 5 6, 5 6 7 and 2 6 7 are facets of
-- tetrahedra on it
abbrev pub pricked : List ℕ
pricked = cut (vertex 4 3 3) (joins 2 5 8 7 ∷ joins 5 6 8 7 ∷ joins 6 2 8 7 ∷ [])

abbrev pub hollow : List ℕ
hollow = cut (vertex 3 3 3) (joins 2 5 6 8 ∷ joins 5 6 8 7 ∷ joins 2 6 7 8 ∷ joins 2 5 8 7 ∷ [])

-- C without its last tetrahedron; with one more, at corner 0, that shares no facet and so is accepted; and with another
-- such at corner 2
abbrev pub gap : List ℕ
gap = cube_with []

abbrev pub lapped : List ℕ
lapped = cube_with (joins 0 5 2 7 ∷ joins 0 1 3 4 ∷ [])

abbrev pub lapped_twice : List ℕ
lapped_twice = cube_with (joins 0 5 2 7 ∷ joins 0 1 3 4 ∷ joins 2 3 1 6 ∷ [])

-- ---- the rows

abbrev pub in_order : List ℕ
in_order = 0 ∷ 1 ∷ 2 ∷ 3 ∷ 4 ∷ 5 ∷ 6 ∷ 7 ∷ []

abbrev pub finds : List ℕ → ℕ → List ℕ → Finding → Row
finds f k c w = row (asking f k c) (reasoned (Ok w))

-- refused with this number
abbrev pub refuses : List ℕ → ℕ → List ℕ → ℕ → Row
refuses f k c j = row (asking f k c) (reasoned (Err (named j)))

abbrev pub asked : List Row
asked =
    -- cells of each kind, in least form and turned; unused places count for nothing
    finds file_c 8 in_order (Cell 0 1 2 3 4 5 6 7) ∷
    finds file_c 8 (1 ∷ 2 ∷ 3 ∷ 0 ∷ 5 ∷ 6 ∷ 7 ∷ 4 ∷ []) (Turned 0 1 2 3 4 5 6 7) ∷
    finds file_c 6 (0 ∷ 1 ∷ 2 ∷ 7 ∷ 5 ∷ 6 ∷ 6 ∷ 65535 ∷ []) (Cell 0 1 2 7 5 6 0 0) ∷
    finds file_c 6 (7 ∷ 6 ∷ 5 ∷ 0 ∷ 2 ∷ 1 ∷ 8 ∷ 8 ∷ []) (Turned 0 1 2 7 5 6 0 0) ∷
    finds file_c 5 (0 ∷ 1 ∷ 2 ∷ 7 ∷ 5 ∷ 8 ∷ 8 ∷ 8 ∷ []) (Cell 0 1 2 7 5 0 0 0) ∷
    finds file_c 5 (1 ∷ 2 ∷ 7 ∷ 0 ∷ 5 ∷ 1 ∷ 1 ∷ 1 ∷ []) (Turned 0 1 2 7 5 0 0 0) ∷
    -- 1: not below n, equal to an earlier corner; both, in either order; the last place that counts, in numbers that
    -- are a cell of kind 5; no vertices at all
    finds file_c 8 (0 ∷ 1 ∷ 2 ∷ 3 ∷ 4 ∷ 5 ∷ 6 ∷ 8 ∷ []) (BadCorner 7) ∷
    finds file_c 8 (0 ∷ 1 ∷ 2 ∷ 1 ∷ 4 ∷ 5 ∷ 6 ∷ 7 ∷ []) (BadCorner 3) ∷
    finds file_c 8 (0 ∷ 1 ∷ 2 ∷ 0 ∷ 4 ∷ 5 ∷ 6 ∷ 8 ∷ []) (BadCorner 3) ∷
    finds file_c 8 (0 ∷ 1 ∷ 8 ∷ 1 ∷ 4 ∷ 5 ∷ 6 ∷ 7 ∷ []) (BadCorner 2) ∷
    finds file_c 6 (0 ∷ 1 ∷ 2 ∷ 7 ∷ 5 ∷ 8 ∷ 8 ∷ 8 ∷ []) (BadCorner 5) ∷
    finds (file [] []) 8 in_order (BadCorner 0) ∷
    -- 2: the first of several, and the last edge of a table
    finds file_c 8 (0 ∷ 1 ∷ 2 ∷ 3 ∷ 4 ∷ 5 ∷ 7 ∷ 6 ∷ []) (NoEdge 7) ∷
    finds file_c 5 (0 ∷ 1 ∷ 3 ∷ 2 ∷ 4 ∷ 0 ∷ 0 ∷ 0 ∷ []) (NoEdge 1) ∷
    finds file_c 6 (0 ∷ 1 ∷ 2 ∷ 4 ∷ 5 ∷ 6 ∷ 0 ∷ 0 ∷ []) (NoEdge 8) ∷
    -- 3: a quadrilateral of each kind, and triangles; a triangle where a quadrilateral fails too
    finds pricked 8 in_order (NoFace 4) ∷
    finds pricked 6 (0 ∷ 1 ∷ 2 ∷ 7 ∷ 5 ∷ 6 ∷ 0 ∷ 0 ∷ []) (NoFace 3) ∷
    finds pricked 6 (0 ∷ 3 ∷ 7 ∷ 5 ∷ 2 ∷ 6 ∷ 0 ∷ 0 ∷ []) (NoFace 1) ∷
    finds pricked 5 (0 ∷ 2 ∷ 6 ∷ 5 ∷ 7 ∷ 0 ∷ 0 ∷ 0 ∷ []) (NoFace 4) ∷
    finds pricked 5 (0 ∷ 2 ∷ 6 ∷ 7 ∷ 5 ∷ 0 ∷ 0 ∷ 0 ∷ []) (NoFace 1) ∷
    finds wired 5 in_order (NoFace 3) ∷
    -- 4: a box of 0; a mirrored cell, with all boxes below 0
    finds file_p 5 (1 ∷ 4 ∷ 3 ∷ 2 ∷ 0 ∷ 0 ∷ 0 ∷ 0 ∷ []) (BadBox 3) ∷
    finds file_c 8 (0 ∷ 3 ∷ 2 ∷ 1 ∷ 4 ∷ 7 ∷ 6 ∷ 5 ∷ []) (BadBox 0) ∷
    -- 5: the first quadrilateral of three, with neither diagonal; one with both; triangles before quadrilaterals
    finds hollow 8 in_order (OpenFace 1) ∷
    finds lapped_twice 8 in_order (OpenFace 0) ∷
    finds hollow 6 (0 ∷ 1 ∷ 2 ∷ 7 ∷ 5 ∷ 6 ∷ 0 ∷ 0 ∷ []) (OpenFace 1) ∷
    finds hollow 5 (2 ∷ 0 ∷ 5 ∷ 6 ∷ 7 ∷ 0 ∷ 0 ∷ 0 ∷ []) (OpenFace 2) ∷
    -- 5: a triple on no face, and the same one of the turned tuple; a triangle of a quadrilateral's other diagonal
    finds gap 8 in_order (OpenTriple 0 2 5) ∷
    finds gap 8 (6 ∷ 7 ∷ 3 ∷ 2 ∷ 5 ∷ 4 ∷ 0 ∷ 1 ∷ []) (OpenTriple 0 2 5) ∷
    finds lapped 8 in_order (OpenTriple 0 1 3) ∷
    -- 6
    finds mixed 8 in_order TwoParts ∷
    -- another kind, whatever the numbers; a file that is refused, whatever the kind
    refuses file_c 7 in_order 16 ∷
    refuses file_c 0 (8 ∷ 8 ∷ 8 ∷ 8 ∷ 8 ∷ 8 ∷ 8 ∷ 8 ∷ []) 16 ∷
    refuses turned 8 in_order 7 ∷
    refuses (fan (joins 0 1 2 3 ∷ joins 1 2 0 4 ∷ [])) 7 in_order 9 ∷
    refuses [] 9 in_order 1 ∷
    []

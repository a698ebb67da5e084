-- The text of lists, as ASCII codes: a line for the counts, one for each vertex and one for each tetrahedron.
-- Assumes nothing.
use Rattle.std.specs.Prelude.{ℕ, suc, ◌+◌, ◌*◌, ◌/◌, List, [], ◌∷◌, ◌++◌, map, ℤ, pos, negsuc, length, get_or}
use Rattle.base.specs.Lists.{spread, up_to}
use Rattle.space.specs.Arrays.{row4}
use Rattle.lines.specs.Text.{decimal}

-- a number, with its sign below 0
abbrev pub signed_text : ℤ → List ℕ
signed_text (pos n) = decimal n
signed_text (negsuc k) = 45 ∷ decimal (suc k)

-- a space, and the number
abbrev pub apart : ℤ → List ℕ
apart z = 32 ∷ signed_text z

-- a line of numbers
unfoldable pub line_of : List ℤ → List ℕ
line_of [] = 10 ∷ []
line_of (z ∷ zs) = signed_text z ++ spread apart zs ++ 10 ∷ []

-- the three coordinates of vertex v
abbrev pub vertex_row : List ℤ → ℕ → List ℤ
vertex_row cs v = get_or cs (3 * v) (pos 0) ∷ get_or cs (3 * v + 1) (pos 0) ∷ get_or cs (3 * v + 2) (pos 0) ∷ []

-- the four vertex numbers and the part of tetrahedron j
abbrev pub tet_row : List ℕ → List ℕ → ℕ → List ℤ
tet_row ls ps j = map pos (row4 ls j ++ get_or ps j 0 ∷ [])

-- the lines of the first n vertices, and those of the first t tetrahedra
abbrev pub vertex_lines : List ℤ → ℕ → List ℕ
vertex_lines cs n = spread (λ v. line_of (vertex_row cs v)) (up_to n)

abbrev pub tet_lines : List ℕ → List ℕ → ℕ → List ℕ
tet_lines ls ps t = spread (λ j. line_of (tet_row ls ps j)) (up_to t)

-- the text of the lists
unfoldable pub text_of : List ℤ → List ℕ → List ℕ → List ℕ
text_of cs ls ps =
    line_of (pos (length cs / 3) ∷ pos (length ps) ∷ [])
    ++ vertex_lines cs (length cs / 3)
    ++ tet_lines ls ps (length ps)

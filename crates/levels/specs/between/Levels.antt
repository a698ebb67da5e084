-- The levels of the search: at each place of each kind, the faces and the corner triples whose last corner it is,
-- by places in search order.
-- A row of these tables is a place of a kind: kind 8 has the first eight, kind 6 the next six, kind 5 the last five.
-- Assumes nothing.
use Rattle.std.specs.Prelude.{ℕ, ◌+◌, ◌-◌, ◌*◌, ◌≤◌, ◌<◌, cond, List, [], ◌∷◌, ◌++◌, eqb, length, get_or, take, drop}
use Rattle.cells.specs.between.Rows.{threes, fours}

-- where the rows of a kind begin
abbrev pub base : ℕ → ℕ
base k = cond (eqb k 8) 0 (cond (eqb k 6) 8 14)

-- the triangles, end to end, and where those of each row begin in the table of all
abbrev pub triangles : List ℕ
triangles = 0 ∷ 1 ∷ 2 ∷ 3 ∷ 4 ∷ 5 ∷ 0 ∷ 1 ∷ 4 ∷ 1 ∷ 2 ∷ 4 ∷ 2 ∷ 3 ∷ 4 ∷ 0 ∷ 3 ∷ 4 ∷ []

abbrev pub triangles_at : List ℕ
triangles_at = 0 ∷ 0 ∷ 0 ∷ 0 ∷ 0 ∷ 0 ∷ 0 ∷ 0 ∷ 0 ∷ 0 ∷ 0 ∷ 3 ∷ 3 ∷ 3 ∷ 6 ∷ 6 ∷ 6 ∷ 6 ∷ 6 ∷ 18 ∷ []

abbrev pub quads : List ℕ
quads =
    0 ∷ 1 ∷ 4 ∷ 2 ∷ 0 ∷ 1 ∷ 5 ∷ 3 ∷ 0 ∷ 2 ∷ 6 ∷ 3 ∷ 3 ∷ 5 ∷ 7 ∷ 6 ∷ 2 ∷ 4 ∷ 7 ∷ 6 ∷ 1 ∷ 4 ∷ 7 ∷ 5 ∷ 0 ∷ 1 ∷ 4 ∷ 3 ∷ 4 ∷ 5 ∷ 2 ∷ 1 ∷ 0 ∷ 2 ∷ 5 ∷ 3 ∷ 0 ∷ 1 ∷ 2 ∷ 3 ∷ []

abbrev pub quads_at : List ℕ
quads_at = 18 ∷ 18 ∷ 18 ∷ 18 ∷ 18 ∷ 22 ∷ 26 ∷ 30 ∷ 42 ∷ 42 ∷ 42 ∷ 42 ∷ 42 ∷ 46 ∷ 54 ∷ 54 ∷ 54 ∷ 54 ∷ 58 ∷ 58 ∷ []

abbrev pub triples : List ℕ
triples =
    0 ∷ 1 ∷ 2 ∷ 3 ∷ 1 ∷ 4 ∷ 0 ∷ 5 ∷ 2 ∷ 0 ∷ 4 ∷ 6 ∷ 3 ∷ 6 ∷ 5 ∷ 0 ∷ 4 ∷ 2 ∷ 1 ∷ 7 ∷ 5 ∷ 3 ∷ 7 ∷ 1 ∷ 7 ∷ 5 ∷ 6 ∷ 4 ∷ 6 ∷ 7 ∷ 3 ∷ 2 ∷
    0 ∷ 1 ∷ 2 ∷ 3 ∷ 1 ∷ 2 ∷ 0 ∷ 4 ∷ 2 ∷ 0 ∷ 1 ∷ 5 ∷ 3 ∷ 5 ∷ 4 ∷ 0 ∷ 4 ∷ 3 ∷ 5 ∷ 1 ∷ 5 ∷ 4 ∷ 3 ∷ 2 ∷
    0 ∷ 1 ∷ 3 ∷ 4 ∷ 1 ∷ 2 ∷ 0 ∷ 4 ∷ 2 ∷ 3 ∷ 1 ∷ 4 ∷ 3 ∷ 0 ∷ 2 ∷ 4 ∷ []

abbrev pub triples_at : List ℕ
triples_at = 58 ∷ 58 ∷ 58 ∷ 58 ∷ 62 ∷ 62 ∷ 66 ∷ 74 ∷ 90 ∷ 90 ∷ 90 ∷ 90 ∷ 94 ∷ 98 ∷ 114 ∷ 114 ∷ 114 ∷ 114 ∷ 114 ∷ 130 ∷ []

-- how many of the first places have a lesser vertex
abbrev pub lesser : List ℕ
lesser = 0 ∷ 1 ∷ 2 ∷ 2 ∷ 1 ∷ 1 ∷ 1 ∷ 1 ∷ 0 ∷ 1 ∷ 1 ∷ 1 ∷ 1 ∷ 1 ∷ 0 ∷ 1 ∷ 1 ∷ 1 ∷ 0 ∷ []

-- an earlier place that an edge joins to this one
abbrev pub joined : List ℕ
joined = 0 ∷ 0 ∷ 0 ∷ 0 ∷ 1 ∷ 1 ∷ 2 ∷ 4 ∷ 0 ∷ 0 ∷ 0 ∷ 0 ∷ 1 ∷ 2 ∷ 0 ∷ 0 ∷ 1 ∷ 0 ∷ 0 ∷ []

-- and another one, or the same where there is no other
abbrev pub also : List ℕ
also = 0 ∷ 0 ∷ 0 ∷ 0 ∷ 2 ∷ 3 ∷ 3 ∷ 5 ∷ 0 ∷ 0 ∷ 1 ∷ 0 ∷ 3 ∷ 3 ∷ 0 ∷ 0 ∷ 1 ∷ 2 ∷ 1 ∷ []

-- and a third one, or the second again
abbrev pub third : List ℕ
third = 0 ∷ 0 ∷ 0 ∷ 0 ∷ 2 ∷ 3 ∷ 3 ∷ 6 ∷ 0 ∷ 0 ∷ 1 ∷ 0 ∷ 3 ∷ 4 ∷ 0 ∷ 0 ∷ 1 ∷ 2 ∷ 2 ∷ []

-- for each row of the levels' tables two times three places u, w and q,
-- where the new corner, u and w are corners of a face or of two that meet, u is between,
-- and what links the new corner and w at u is not the corner at q;
-- a row whose first two places are equal has no look-ahead
abbrev pub ahead : List ℕ
ahead =
    0 ∷ 0 ∷ 0 ∷ 0 ∷ 0 ∷ 0 ∷ 0 ∷ 0 ∷ 0 ∷ 0 ∷ 0 ∷ 0 ∷ 0 ∷ 1 ∷ 1 ∷ 0 ∷ 1 ∷ 1 ∷ 0 ∷ 2 ∷ 1 ∷ 0 ∷ 1 ∷ 2 ∷ 0 ∷ 0 ∷ 0 ∷ 0 ∷ 0 ∷ 0 ∷ 0 ∷ 0 ∷ 0 ∷ 0 ∷ 0 ∷ 0 ∷ 0 ∷ 0 ∷ 0 ∷ 0 ∷ 0 ∷ 0 ∷ 0 ∷ 0 ∷ 0 ∷ 0 ∷ 0 ∷ 0 ∷
    0 ∷ 0 ∷ 0 ∷ 0 ∷ 0 ∷ 0 ∷ 0 ∷ 0 ∷ 0 ∷ 0 ∷ 0 ∷ 0 ∷ 0 ∷ 0 ∷ 0 ∷ 0 ∷ 0 ∷ 0 ∷ 0 ∷ 2 ∷ 1 ∷ 0 ∷ 1 ∷ 2 ∷ 1 ∷ 2 ∷ 3 ∷ 3 ∷ 0 ∷ 0 ∷ 0 ∷ 0 ∷ 0 ∷ 0 ∷ 0 ∷ 0 ∷
    0 ∷ 0 ∷ 0 ∷ 0 ∷ 0 ∷ 0 ∷ 0 ∷ 0 ∷ 0 ∷ 0 ∷ 0 ∷ 0 ∷ 1 ∷ 0 ∷ 0 ∷ 1 ∷ 0 ∷ 0 ∷ 0 ∷ 1 ∷ 2 ∷ 2 ∷ 1 ∷ 0 ∷ 0 ∷ 0 ∷ 0 ∷ 0 ∷ 0 ∷ 0 ∷ []

-- entry i of row x
abbrev pub look : ℕ → ℕ → ℕ
look x i = get_or ahead (6 * x + i) 0

-- all the tables end to end
unfoldable pub levels : List ℕ
levels =
    triangles ++ quads ++ triples ++ triangles_at ++ quads_at ++ triples_at ++ lesser ++ joined ++ also ++ third ++ ahead

-- of a table, the part that belongs to row x
abbrev pub part : List ℕ → List ℕ → ℕ → List ℕ
part rows starts x = take (get_or starts (x + 1) 0 - get_or starts x 0) (drop (get_or starts x 0) rows)

-- the triangles, the quadrilaterals and the corner triples of row x
abbrev pub level_triangles : ℕ → List (List ℕ)
level_triangles x = threes (part levels triangles_at x)

abbrev pub level_quads : ℕ → List (List ℕ)
level_quads x = fours (part levels quads_at x)

abbrev pub level_triples : ℕ → List (List ℕ)
level_triples x = fours (part levels triples_at x)

-- a table's part for row x lies within it
pub record Cut (rows starts : List ℕ) (x : ℕ) : Type 0 where
  pub there : x + 1 < length starts
  pub rising : get_or starts x 0 ≤ get_or starts (x + 1) 0
  pub within : get_or starts (x + 1) 0 ≤ length rows

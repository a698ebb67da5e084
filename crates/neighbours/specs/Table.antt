-- The neighbour table: where the row of each vertex starts, and the rows, each with its neighbours rising.
-- Assumes nothing.
use Rattle.std.specs.Prelude.{ℕ, ◌+◌, Bool, not, ◌&&◌, List, [], ◌∷◌, ◌++◌, map, eqb, length}
use Rattle.base.specs.Lists.{keep, spread, up_to}
use Rattle.space.specs.Mesh.{Mesh, together}

-- of the vertices below n, those that f says are next to u, and u not
unfoldable pub neighbour_row : (ℕ → ℕ → Bool) → ℕ → ℕ → List ℕ
neighbour_row f n u = keep (λ v. not (eqb u v) && f u v) (up_to n)

-- the first k rows end to end
unfoldable pub first_rows : (ℕ → List ℕ) → ℕ → List ℕ
first_rows row k = spread row (up_to k)

-- where each of the n rows starts, counted from the end of the offsets, and where the last one ends
unfoldable pub offsets : (ℕ → List ℕ) → ℕ → List ℕ
offsets row n = map (λ u. length (first_rows row u)) (up_to (n + 1))

unfoldable pub table_by : (ℕ → List ℕ) → ℕ → List ℕ
table_by row n = offsets row n ++ first_rows row n

-- the neighbours of u, rising: other vertices, below n, that stand with it in a tetrahedron;
-- and the neighbour table of n vertices
module _ (m : Mesh) (n : ℕ) where
  unfoldable pub neighbours_of : ℕ → List ℕ
  neighbours_of = neighbour_row (λ u v. together m (u ∷ v ∷ [])) n

  unfoldable pub table_of : List ℕ
  table_of = table_by neighbours_of n

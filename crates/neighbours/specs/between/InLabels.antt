-- The neighbour table by the vertex numbers of the tetrahedra.
-- Assumes nothing.
use Rattle.std.specs.Prelude.{ℕ, List, [], ◌∷◌}
use Rattle.tets_around.specs.Sharing.{together_in}
use Rattle.neighbours.specs.Table.{neighbour_row, table_by}

-- the neighbours of u and the neighbour table of n vertices, as `neighbours_of` and `table_of` say of a mesh
module _ (ls : List ℕ) (n : ℕ) where
  unfoldable pub neighbours_in : ℕ → List ℕ
  neighbours_in = neighbour_row (λ u v. together_in ls (u ∷ v ∷ [])) n

  unfoldable pub table_in : List ℕ
  table_in = table_by neighbours_in n

-- The edges of a mesh.
-- Assumes nothing.
use Rattle.std.specs.Prelude.{ℕ, [], ◌∷◌, length}
use Rattle.base.specs.Lists.{keep, spread, up_to}
use Rattle.space.specs.Mesh.{Mesh, together}

-- how many pairs of vertices u < v below n stand together in a tetrahedron: for each v the lesser ones that do
unfoldable pub edges : Mesh → ℕ → ℕ
edges m n = length (spread (λ v. keep (λ u. together m (u ∷ v ∷ [])) (up_to v)) (up_to n))

-- The mesh in working arrays: three coordinates a vertex, four vertex numbers and a part a tetrahedron.
-- Assumes nothing.
use Rattle.std.specs.Prelude.{ℕ, ◌+◌, ◌*◌, ◌/◌, List, [], ◌∷◌, map, ℤ, pos, length, get_or}
use Rattle.base.specs.Lists.{up_to}
use Rattle.space.specs.declared.Point.{Point}
use Rattle.space.specs.Mesh.{Mesh, Tetrahedron}

-- the point of vertex v
abbrev pub point_at : List ℤ → ℕ → Point
point_at zs v = record { x = get_or zs (3 * v) (pos 0); y = get_or zs (3 * v + 1) (pos 0); z = get_or zs (3 * v + 2) (pos 0) }

-- the four vertices of tetrahedron i
abbrev pub row4 : List ℕ → ℕ → List ℕ
row4 xs i = get_or xs (4 * i) 0 ∷ get_or xs (4 * i + 1) 0 ∷ get_or xs (4 * i + 2) 0 ∷ get_or xs (4 * i + 3) 0 ∷ []

abbrev pub tet_at : List ℕ → List ℕ → ℕ → Tetrahedron
tet_at ls ps i = record { vertices = row4 ls i; part = get_or ps i 0 }

-- the mesh that the arrays say
abbrev pub mesh_of : List ℤ → List ℕ → List ℕ → Mesh
mesh_of zs ls ps =
    record { points = map (point_at zs) (up_to (length zs / 3)); tets = map (tet_at ls ps) (up_to (length ls / 4)) }

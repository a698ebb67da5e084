-- The meshes worked by hand, and their cells in the order of the full list.
-- Assumes nothing.
use Rattle.std.specs.Prelude.{ℕ, List, [], ◌∷◌, pos}
use Rattle.space.specs.declared.Point.{Point}
use Rattle.space.specs.Mesh.{Mesh, Tetrahedron}
use Rattle.cells.specs.Full.{Cell, cell}

abbrev pub xyz : ℕ → ℕ → ℕ → Point
xyz a b c = record { x = pos a; y = pos b; z = pos c }

abbrev pub tet : ℕ → ℕ → ℕ → ℕ → ℕ → Tetrahedron
tet a b c d p = record { vertices = a ∷ b ∷ c ∷ d ∷ []; part = p }

-- two tetrahedra on one facet
abbrev pub mesh_p : Mesh
mesh_p = record {
  points = xyz 0 0 0 ∷ xyz 2 0 0 ∷ xyz 2 2 0 ∷ xyz 0 2 0 ∷ xyz 0 0 2 ∷ [];
  tets = tet 0 1 2 4 0 ∷ tet 0 2 3 4 0 ∷ [];
}

-- the cube, with this part for its last tetrahedron
abbrev pub mesh_c : ℕ → Mesh
mesh_c part = record {
  points = xyz 0 0 0 ∷ xyz 1 0 0 ∷ xyz 1 1 0 ∷ xyz 0 1 0 ∷ xyz 0 0 1 ∷ xyz 1 0 1 ∷ xyz 1 1 1 ∷ xyz 0 1 1 ∷ [];
  tets = tet 0 1 2 5 0 ∷ tet 0 2 3 7 0 ∷ tet 0 5 7 4 0 ∷ tet 2 5 6 7 0 ∷ tet 0 5 2 7 part ∷ [];
}

-- P and C with vertex 1 lower, and under its face a boundary tetrahedron, the last
abbrev pub mesh_p' : Mesh
mesh_p' = record {
  points = xyz 0 0 1 ∷ xyz 2 0 0 ∷ xyz 2 2 1 ∷ xyz 0 2 1 ∷ xyz 0 0 3 ∷ [];
  tets = tet 0 1 2 4 0 ∷ tet 0 2 3 4 0 ∷ tet 0 1 3 2 0 ∷ [];
}

abbrev pub mesh_c' : Mesh
mesh_c' = record {
  points = xyz 0 0 1 ∷ xyz 2 0 0 ∷ xyz 2 2 1 ∷ xyz 0 2 1 ∷ xyz 0 0 3 ∷ xyz 2 0 3 ∷ xyz 2 2 3 ∷ xyz 0 2 3 ∷ [];
  tets = tet 0 1 2 5 0 ∷ tet 0 2 3 7 0 ∷ tet 0 5 7 4 0 ∷ tet 2 5 6 7 0 ∷ tet 0 5 2 7 0 ∷ tet 0 1 3 2 0 ∷ [];
}

-- ---- their cells

-- the pyramid of P; P' has it too
abbrev pub cell_p : Cell
cell_p = cell 5 (0 ∷ 1 ∷ 2 ∷ 3 ∷ 4 ∷ []) (0 ∷ 1 ∷ [])

-- the hexahedron of C; C' has it too
abbrev pub cell_c : Cell
cell_c = cell 8 (0 ∷ 1 ∷ 2 ∷ 3 ∷ 4 ∷ 5 ∷ 6 ∷ 7 ∷ []) (0 ∷ 1 ∷ 2 ∷ 3 ∷ 4 ∷ [])

abbrev pub list_p : List Cell
list_p = cell_p ∷ []

abbrev pub list_p' : List Cell
list_p' = cell_p ∷ cell 5 (0 ∷ 3 ∷ 2 ∷ 4 ∷ 1 ∷ []) (0 ∷ 2 ∷ []) ∷ cell 5 (0 ∷ 4 ∷ 2 ∷ 1 ∷ 3 ∷ []) (1 ∷ 2 ∷ []) ∷ []

abbrev pub list_c : List Cell
list_c =
    cell_c ∷
    cell 6 (0 ∷ 1 ∷ 2 ∷ 4 ∷ 5 ∷ 7 ∷ []) (0 ∷ 2 ∷ 4 ∷ []) ∷
    cell 6 (0 ∷ 1 ∷ 2 ∷ 7 ∷ 5 ∷ 6 ∷ []) (0 ∷ 3 ∷ 4 ∷ []) ∷
    cell 6 (0 ∷ 2 ∷ 3 ∷ 4 ∷ 5 ∷ 7 ∷ []) (1 ∷ 2 ∷ 4 ∷ []) ∷
    cell 6 (0 ∷ 2 ∷ 3 ∷ 5 ∷ 6 ∷ 7 ∷ []) (1 ∷ 3 ∷ 4 ∷ []) ∷
    cell 6 (0 ∷ 3 ∷ 7 ∷ 1 ∷ 2 ∷ 5 ∷ []) (0 ∷ 1 ∷ 4 ∷ []) ∷
    cell 6 (0 ∷ 3 ∷ 7 ∷ 5 ∷ 2 ∷ 6 ∷ []) (1 ∷ 3 ∷ 4 ∷ []) ∷
    cell 6 (0 ∷ 4 ∷ 5 ∷ 2 ∷ 7 ∷ 6 ∷ []) (2 ∷ 3 ∷ 4 ∷ []) ∷
    cell 6 (0 ∷ 4 ∷ 5 ∷ 3 ∷ 7 ∷ 2 ∷ []) (1 ∷ 2 ∷ 4 ∷ []) ∷
    cell 6 (0 ∷ 5 ∷ 1 ∷ 3 ∷ 7 ∷ 2 ∷ []) (0 ∷ 1 ∷ 4 ∷ []) ∷
    cell 6 (0 ∷ 5 ∷ 1 ∷ 7 ∷ 6 ∷ 2 ∷ []) (0 ∷ 3 ∷ 4 ∷ []) ∷
    cell 6 (0 ∷ 7 ∷ 4 ∷ 1 ∷ 2 ∷ 5 ∷ []) (0 ∷ 2 ∷ 4 ∷ []) ∷
    cell 6 (0 ∷ 7 ∷ 4 ∷ 2 ∷ 6 ∷ 5 ∷ []) (2 ∷ 3 ∷ 4 ∷ []) ∷
    cell 5 (0 ∷ 1 ∷ 2 ∷ 7 ∷ 5 ∷ []) (0 ∷ 4 ∷ []) ∷
    cell 5 (0 ∷ 2 ∷ 6 ∷ 7 ∷ 5 ∷ []) (3 ∷ 4 ∷ []) ∷
    cell 5 (0 ∷ 2 ∷ 7 ∷ 4 ∷ 5 ∷ []) (2 ∷ 4 ∷ []) ∷
    cell 5 (0 ∷ 3 ∷ 7 ∷ 5 ∷ 2 ∷ []) (1 ∷ 4 ∷ []) ∷
    cell 5 (0 ∷ 4 ∷ 5 ∷ 2 ∷ 7 ∷ []) (2 ∷ 4 ∷ []) ∷
    cell 5 (0 ∷ 5 ∷ 2 ∷ 3 ∷ 7 ∷ []) (1 ∷ 4 ∷ []) ∷
    cell 5 (0 ∷ 5 ∷ 6 ∷ 2 ∷ 7 ∷ []) (3 ∷ 4 ∷ []) ∷
    cell 5 (0 ∷ 7 ∷ 5 ∷ 1 ∷ 2 ∷ []) (0 ∷ 4 ∷ []) ∷
    cell 5 (0 ∷ 7 ∷ 6 ∷ 5 ∷ 2 ∷ []) (3 ∷ 4 ∷ []) ∷
    cell 5 (1 ∷ 5 ∷ 7 ∷ 2 ∷ 0 ∷ []) (0 ∷ 4 ∷ []) ∷
    cell 5 (2 ∷ 5 ∷ 4 ∷ 7 ∷ 0 ∷ []) (2 ∷ 4 ∷ []) ∷
    cell 5 (2 ∷ 5 ∷ 7 ∷ 3 ∷ 0 ∷ []) (1 ∷ 4 ∷ []) ∷
    []

-- What is answered of one vertex or one tetrahedron of a file, for counts n and t. For counts that do not fill the
-- file, nothing is anywhere.
-- Assumes nothing.
use Rattle.std.specs.Prelude.{ℕ, ◌+◌, ◌*◌, List, [], ◌∷◌, Option, Some, None, Bool, cond, ◌&&◌, length, get_or, ltb, leb, eqb}
use Rattle.space.specs.Mesh.{Mesh, Tetrahedron, point}
use Rattle.space.specs.declared.Point.{Point}
use Rattle.space.specs.declared.Vertex.{Vertex}
use Rattle.space.specs.declared.Tet.{Tet}
use Rattle.layout.specs.Layout.{mesh_in}

-- n vertices and t tetrahedra fill the file to its end
unfoldable pub fills_file : List ℕ → ℕ → ℕ → Bool
fills_file f n t = leb n 512 && leb t 2048 && eqb (length f) (24 + 12 * n + 10 * t)

abbrev pub tetrahedron : Mesh → ℕ → Tetrahedron
tetrahedron m e = get_or m.tets e (record { vertices = []; part = 0 })

-- the point of vertex v
unfoldable pub place_in : List ℕ → ℕ → ℕ → Vertex → Option Point
place_in f n t v = cond (fills_file f n t && ltb v.0 n) (Some (point (mesh_in f n t) v.0)) None

-- label k of a tetrahedron
abbrev pub vertex_at : Tetrahedron → ℕ → Vertex
vertex_at e k = record { 0 = get_or e.vertices k 0 }

abbrev pub four : Tetrahedron → List Vertex
four x = vertex_at x 0 ∷ vertex_at x 1 ∷ vertex_at x 2 ∷ vertex_at x 3 ∷ []

-- the four vertices of tetrahedron e
unfoldable pub tetra_in : List ℕ → ℕ → ℕ → Tet → Option (List Vertex)
tetra_in f n t e = cond (fills_file f n t && ltb e.0 t) (Some (four (tetrahedron (mesh_in f n t) e.0))) None

-- the part of tetrahedron e
unfoldable pub part_in : List ℕ → ℕ → ℕ → Tet → Option ℕ
part_in f n t e = cond (fills_file f n t && ltb e.0 t) (Some (tetrahedron (mesh_in f n t) e.0).part) None

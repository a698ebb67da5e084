-- What the readers of one vertex and of one tetrahedron read, place by place.
-- Assumes nothing.
use Rattle.std.specs.Prelude.{ℕ, ◌+◌, ◌*◌, List, [], ◌∷◌}
use Rattle.space.specs.declared.Point.{Point}
use Rattle.space.specs.declared.Vertex.{Vertex}
use Rattle.layout.specs.Bytes.{u16_at, i32_at}

-- point k of a vertex part
abbrev pub point_read : List ℕ → ℕ → Point
point_read q k = record { x = i32_at q (12 * k); y = i32_at q (12 * k + 4); z = i32_at q (12 * k + 8) }

-- the vertices of tetrahedron j of a tetrahedron part
abbrev pub tetra_read : List ℕ → ℕ → List Vertex
tetra_read p j =
    record { 0 = u16_at p (10 * j) }
    ∷ record { 0 = u16_at p (10 * j + 2) }
    ∷ record { 0 = u16_at p (10 * j + 4) }
    ∷ record { 0 = u16_at p (10 * j + 6) }
    ∷ []

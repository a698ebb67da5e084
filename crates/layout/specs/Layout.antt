-- A mesh file: its header with what is asked of it (refusals 1 to 3), its two parts, and what they say.
-- f is the list of the file's bytes.
-- Assumes nothing.
use Rattle.std.specs.Prelude.{ℕ, ◌+◌, ◌*◌, ◌/◌, ◌%◌, List, map, Bool, ◌&&◌, length, drop, leb, eqb, ℤ}
use Rattle.base.specs.Lists.{up_to}
use Rattle.space.specs.Mesh.{Mesh}
use Rattle.space.specs.Arrays.{mesh_of}
use Rattle.layout.specs.Bytes.{u16_at, u32_at, i32_at}

-- ---- the header: vertices, their offset, tetrahedra, their offset, total length, zero

abbrev pub vertices : List ℕ → ℕ
vertices f = u32_at f 0

abbrev pub tets : List ℕ → ℕ
tets f = u32_at f 8

-- not 1: from 24 to 26,648 bytes, as many as the header's total
unfoldable pub length_right : List ℕ → Bool
length_right f = leb 24 (length f) && leb (length f) 26648 && eqb (u32_at f 16) (length f)

-- not 2: at most 512 vertices and 2,048 tetrahedra
unfoldable pub counts_right : List ℕ → Bool
counts_right f = leb (vertices f) 512 && leb (tets f) 2048

-- not 3: the offsets, the total and the zero are those of the counts
unfoldable pub layout_right : List ℕ → Bool
layout_right f =
    eqb (u32_at f 4) 24
    && eqb (u32_at f 12) (24 + 12 * vertices f)
    && eqb (u32_at f 16) (24 + 12 * vertices f + 10 * tets f)
    && eqb (u32_at f 20) 0

-- ---- the vertex part: three signed numbers of 32 bits a vertex

-- the vertex part
abbrev pub vertex_part : List ℕ → List ℕ
vertex_part f = drop 24 f

-- the first k coordinates of a vertex part
unfoldable pub coords_in : List ℕ → ℕ → List ℤ
coords_in q k = map (λ i. i32_at q (4 * i)) (up_to k)

-- ---- the tetrahedron part: four vertex numbers and a part number of 16 bits each a tetrahedron

-- the tetrahedron part, after n vertices
abbrev pub tet_part : ℕ → List ℕ → List ℕ
tet_part n f = drop (24 + 12 * n) f

-- the first k vertex numbers of a tetrahedron part
unfoldable pub labels_in : List ℕ → ℕ → List ℕ
labels_in p k = map (λ x. u16_at p (10 * (x / 4) + 2 * (x % 4))) (up_to k)

-- the part numbers of its first k tetrahedra
unfoldable pub parts_in : List ℕ → ℕ → List ℕ
parts_in p k = map (λ j. u16_at p (10 * j + 8)) (up_to k)

-- ---- what the file says

abbrev pub coords_of : List ℕ → List ℤ
coords_of f = coords_in (vertex_part f) (3 * vertices f)

abbrev pub labels_of : List ℕ → List ℕ
labels_of f = labels_in (tet_part (vertices f) f) (4 * tets f)

abbrev pub parts_of : List ℕ → List ℕ
parts_of f = parts_in (tet_part (vertices f) f) (tets f)

-- the mesh of n vertices and t tetrahedra that the file holds
abbrev pub mesh_in : List ℕ → ℕ → ℕ → Mesh
mesh_in f n t =
    mesh_of (coords_in (vertex_part f) (3 * n)) (labels_in (tet_part n f) (4 * t)) (parts_in (tet_part n f) t)

-- the mesh of the file
abbrev pub decoded : List ℕ → Mesh
decoded f = mesh_in f (vertices f) (tets f)

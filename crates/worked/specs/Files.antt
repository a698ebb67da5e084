-- Files from what they say, and those of the meshes worked by hand.
-- Assumes nothing.
use Rattle.std.specs.Prelude.{ℕ, ◌+◌, ◌*◌, ◌/◌, ◌%◌, ◌-◌, List, [], ◌∷◌, ◌++◌, length}

-- little-endian numbers
abbrev pub u16 : ℕ → List ℕ
u16 n = n % 256 ∷ n / 256 ∷ []

abbrev pub u32 : ℕ → List ℕ
u32 n = u16 (n % 65536) ++ u16 (n / 65536)

-- the 32 bits of -n
abbrev pub minus : ℕ → ℕ
minus n = 4294967296 - n

-- a header: vertices, their offset, tetrahedra, their offset, total length, zero
abbrev pub header : ℕ → ℕ → ℕ → ℕ → ℕ → ℕ → List ℕ
header n o t p l z = u32 n ++ u32 o ++ u32 t ++ u32 p ++ u32 l ++ u32 z

-- the vertex x, y, z
abbrev pub vertex : ℕ → ℕ → ℕ → List ℕ
vertex x y z = u32 x ++ u32 y ++ u32 z

-- the tetrahedron a, b, c, d in part 0
abbrev pub joins : ℕ → ℕ → ℕ → ℕ → List ℕ
joins a b c d = u16 a ++ u16 b ++ u16 c ++ u16 d ++ u16 0

abbrev pub bytes_of : List (List ℕ) → List ℕ
bytes_of [] = []
bytes_of (x ∷ xs) = x ++ bytes_of xs

-- the file of these vertices and tetrahedra
abbrev pub file : List (List ℕ) → List (List ℕ) → List ℕ
file vs ts =
    let n = length vs in
    let t = length ts in
    header n 24 t (24 + 12 * n) (24 + 12 * n + 10 * t) 0 ++ bytes_of vs ++ bytes_of ts

-- ---- the files of the meshes

-- a square and a vertex above it, with these tetrahedra
abbrev pub tent : List (List ℕ) → List ℕ
tent ts = file (vertex 0 0 0 ∷ vertex 2 0 0 ∷ vertex 2 2 0 ∷ vertex 0 2 0 ∷ vertex 0 0 2 ∷ []) ts

-- the unit cube, with these tetrahedra behind those at four of its corners; and with this one
abbrev pub cube_with : List (List ℕ) → List ℕ
cube_with ts =
    file
    (vertex 0 0 0 ∷ vertex 1 0 0 ∷ vertex 1 1 0 ∷ vertex 0 1 0 ∷ vertex 0 0 1 ∷ vertex 1 0 1 ∷ vertex 1 1 1 ∷ vertex 0 1 1 ∷ [])
    (joins 0 1 2 5 ∷ joins 0 2 3 7 ∷ joins 0 5 7 4 ∷ joins 2 5 6 7 ∷ ts)

abbrev pub cube : List ℕ → List ℕ
cube e = cube_with (e ∷ [])

-- 0 1 2 is a facet; 3 and 4 are above it, 5 is below
abbrev pub fan : List (List ℕ) → List ℕ
fan ts = file (vertex 0 0 0 ∷ vertex 2 0 0 ∷ vertex 0 2 0 ∷ vertex 0 0 2 ∷ vertex 1 1 3 ∷ vertex 0 0 (minus 1) ∷ []) ts

-- one vertex
abbrev pub lone : ℕ → ℕ → ℕ → List ℕ
lone x y z = file (vertex x y z ∷ []) []

-- two tetrahedra on one facet
abbrev pub file_p : List ℕ
file_p = tent (joins 0 1 2 4 ∷ joins 0 2 3 4 ∷ [])

-- the cube; with its last tetrahedron in part 1; with that tetrahedron's vertices in another order
abbrev pub file_c : List ℕ
file_c = cube (joins 0 5 2 7)

abbrev pub mixed : List ℕ
mixed = cube (u16 0 ++ u16 5 ++ u16 2 ++ u16 7 ++ u16 1)

abbrev pub turned : List ℕ
turned = cube (joins 0 2 5 7)

-- The file that lists make: what `layout` reads, written. cs are the coordinates, three a vertex; ls the vertex
-- numbers, four a tetrahedron; ps the parts, one a tetrahedron.
-- Assumes nothing.
use Rattle.std.specs.Prelude.{ℕ, ◌+◌, ◌*◌, ◌/◌, ◌%◌, ◌-◌, List, [], ◌∷◌, ◌++◌, ℤ, pos, negsuc, length, get_or}
use Rattle.base.specs.Lists.{spread, up_to}
use Rattle.space.specs.Arrays.{row4}

-- ---- little-endian numbers

-- the 16 low bits of n
unfoldable pub u16_bytes : ℕ → List ℕ
u16_bytes n = n % 256 ∷ n / 256 % 256 ∷ []

-- the 32 low bits of n
unfoldable pub u32_bytes : ℕ → List ℕ
u32_bytes n = u16_bytes n ++ u16_bytes (n / 65536)

-- the number whose 32 bits say z in two's complement: z, or z + 2 ^ 32 below 0
unfoldable pub bits_of : ℤ → ℕ
bits_of (pos n) = n
bits_of (negsuc k) = 4294967295 - k

unfoldable pub i32_bytes : ℤ → List ℕ
i32_bytes z = u32_bytes (bits_of z)

-- ---- the header and the two parts

-- how long the file of n vertices and t tetrahedra is
abbrev pub file_size : ℕ → ℕ → ℕ
file_size n t = 24 + 12 * n + 10 * t

-- vertices, their offset, tetrahedra, their offset, total length, zero
unfoldable pub header_bytes : ℕ → ℕ → List ℕ
header_bytes n t = u32_bytes n ++ u32_bytes 24 ++ u32_bytes t ++ u32_bytes (24 + 12 * n) ++ u32_bytes (file_size n t) ++ u32_bytes 0

abbrev pub coord_bytes : List ℤ → List ℕ
coord_bytes cs = spread i32_bytes cs

-- tetrahedron j: four vertex numbers and a part
unfoldable pub tet_bytes : List ℕ → List ℕ → ℕ → List ℕ
tet_bytes ls ps j = spread u16_bytes (row4 ls j) ++ u16_bytes (get_or ps j 0)

abbrev pub tets_bytes : List ℕ → List ℕ → List ℕ
tets_bytes ls ps = spread (tet_bytes ls ps) (up_to (length ps))

-- ---- the file

unfoldable pub file_of : List ℤ → List ℕ → List ℕ → List ℕ
file_of cs ls ps = header_bytes (length cs / 3) (length ps) ++ coord_bytes cs ++ tets_bytes ls ps

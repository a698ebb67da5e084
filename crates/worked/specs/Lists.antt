-- Lists of the meshes worked by hand, as they are handed to the writer.
-- Assumes nothing.
use Rattle.std.specs.Prelude.{ℕ, List, [], ◌∷◌, ◌++◌, map, ℤ, pos, negsuc, replicate}

-- the square and the vertex above it
abbrev pub coords_p : List ℤ
coords_p = map pos (0 ∷ 0 ∷ 0 ∷ 2 ∷ 0 ∷ 0 ∷ 2 ∷ 2 ∷ 0 ∷ 0 ∷ 2 ∷ 0 ∷ 0 ∷ 0 ∷ 2 ∷ [])

abbrev pub numbers_p : List ℕ
numbers_p = 0 ∷ 1 ∷ 2 ∷ 4 ∷ 0 ∷ 2 ∷ 3 ∷ 4 ∷ []

-- the unit cube, with this last tetrahedron
abbrev pub coords_c : List ℤ
coords_c = map pos (0 ∷ 0 ∷ 0 ∷ 1 ∷ 0 ∷ 0 ∷ 1 ∷ 1 ∷ 0 ∷ 0 ∷ 1 ∷ 0 ∷ 0 ∷ 0 ∷ 1 ∷ 1 ∷ 0 ∷ 1 ∷ 1 ∷ 1 ∷ 1 ∷ 0 ∷ 1 ∷ 1 ∷ [])

abbrev pub numbers_c : ℕ → ℕ → ℕ → ℕ → List ℕ
numbers_c a b c d = 0 ∷ 1 ∷ 2 ∷ 5 ∷ 0 ∷ 2 ∷ 3 ∷ 7 ∷ 0 ∷ 5 ∷ 7 ∷ 4 ∷ 2 ∷ 5 ∷ 6 ∷ 7 ∷ a ∷ b ∷ c ∷ d ∷ []

-- the facet 0 1 2, two vertices above it and one below
abbrev pub coords_fan : List ℤ
coords_fan = map pos (0 ∷ 0 ∷ 0 ∷ 2 ∷ 0 ∷ 0 ∷ 0 ∷ 2 ∷ 0 ∷ 0 ∷ 0 ∷ 2 ∷ 1 ∷ 1 ∷ 3 ∷ []) ++ (pos 0 ∷ pos 0 ∷ negsuc 0 ∷ [])

-- so many entries, each 0
abbrev pub still : ℕ → List ℤ
still k = replicate k (pos 0)

abbrev pub noughts : ℕ → List ℕ
noughts k = replicate k 0

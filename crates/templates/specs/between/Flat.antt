-- Tables as the code has them: a table's rows laid end to end.
-- Assumes nothing.
use Rattle.std.specs.Prelude.{ℕ, zero, suc, ◌+◌, ◌*◌, ◌/◌, List, [], ◌∷◌, map, length, get_or, take, drop}
use Rattle.base.specs.Lists.{from, up_to}

-- row i of a table of k numbers a row, and its first n rows
abbrev pub table_row : ℕ → List ℕ → ℕ → List ℕ
table_row k xs i = take k (drop (k * i) xs)

abbrev pub table_rows : ℕ → ℕ → List ℕ → List (List ℕ)
table_rows k n xs = map (table_row k xs) (up_to n)

-- the k places from s on, and the numbers at those of row i of such a table, 0 past its end
abbrev pub places : ℕ → ℕ → List ℕ
places s zero = []
places s (suc k) = s ∷ map (λ j. s + j) (from 1 k)

abbrev pub row_at : ℕ → List ℕ → ℕ → List ℕ
row_at k xs i = map (λ j. get_or xs j 0) (places (k * i) k)

-- the rows of a table of pairs
abbrev pub pair_at : List ℕ → ℕ → List ℕ
pair_at xs i = get_or xs (2 * i) 0 ∷ get_or xs (2 * i + 1) 0 ∷ []

abbrev pub pairs : List ℕ → List (List ℕ)
pairs xs = map (pair_at xs) (up_to (length xs / 2))

-- The text of a listing, as ASCII codes.
-- Assumes nothing.
use Rattle.std.specs.Prelude.{ℕ, zero, suc, ◌+◌, ◌-◌, ◌*◌, ◌/◌, ◌%◌, ◌^◌, ◌≤◌, ◌<◌, min, cond, List, [], ◌∷◌, ◌++◌, ltb, get_or, take, drop}
use Rattle.base.specs.Lists.{spread}
use Rattle.record.specs.Entries.{corner_places, tet_places, count_at, tets_at}

-- the last k decimal digits of a number, in their order
abbrev pub last_digits : ℕ → ℕ → List ℕ
last_digits zero n = []
last_digits (suc k) n = last_digits k (n / 10) ++ (48 + n % 10) ∷ []

-- k are the fewest digits that hold a number, and one at least
abbrev pub IsDigitCount : ℕ → ℕ → Type 0
IsDigitCount n k = (1 ≤ k) × (n < 10 ^ k) × (1 < k → 10 ^ (k - 1) ≤ n)

-- how many decimal digits a number of at most k + 1 digits has
unfoldable pub places_in : ℕ → ℕ → ℕ
places_in zero n = 1
places_in (suc k) n = cond (ltb n 10) 1 (suc (places_in k (n / 10)))

-- the decimal digits of a number below 10 ^ 20, with no zero in front
unfoldable pub decimal : ℕ → List ℕ
decimal n = last_digits (places_in 19 n) n

-- a space, and the number
unfoldable pub spaced : ℕ → List ℕ
spaced n = 32 ∷ decimal n

-- each number with a space before it
unfoldable pub numbers : List ℕ → List ℕ
numbers xs = spread spaced xs

-- of a record's entries: the kind and the corners in use
unfoldable pub corners_text : List ℕ → List ℕ
corners_text r = decimal (get_or r 0 0) ++ numbers (take (min (get_or r 0 0) corner_places) (drop 1 r))

-- a space, a colon and the tetrahedra
unfoldable pub tets_text : List ℕ → List ℕ
tets_text r = (32 ∷ 58 ∷ []) ++ numbers (take (min (get_or r count_at 0) tet_places) (drop tets_at r))

-- the line of a record
unfoldable pub cell_line : List ℕ → List ℕ
cell_line r = corners_text r ++ tets_text r ++ 10 ∷ []

-- how long these can be: a number has at most 20 digits, and 21 characters with its space
abbrev pub corners_most : ℕ
corners_most = 20 + 21 * corner_places

abbrev pub tets_most : ℕ
tets_most = 2 + 21 * tet_places

abbrev pub line_most : ℕ
line_most = corners_most + tets_most + 1

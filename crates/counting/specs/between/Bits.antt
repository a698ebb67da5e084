-- Which corners of a cell its tetrahedra have, as bits, by which condition 5 is counted.
-- Assumes nothing.
use Rattle.std.specs.Prelude.{ℕ, ◌+◌, ◌*◌, ◌/◌, ◌≤◌, ◌<◌, ◌≡◌, Bool, true, cond, List, eqb, ltb, length, get_or}
use Rattle.base.specs.Lists.{all, count, up_to, is_in}
use Rattle.space.specs.Arrays.{row4}

-- whether tetrahedron i has corner j of the tuple, as 1 or 0
abbrev pub bit_of : List ℕ → List ℕ → ℕ → ℕ → ℕ
bit_of ls c i j = cond (is_in (get_or c j 0) (row4 ls i)) 1 0

-- such bits, of 8 corners for each of these tetrahedra
pub record BitsOf (ls xs c has : List ℕ) : Type 0 where
  pub long : length has ≡ 8 * length xs
  pub is : (k j : ℕ) → k < length xs → j < 8 → get_or has (8 * k + j) 0 ≡ bit_of ls c (get_or xs k 0) j

-- a table, 8 to a row, of bits alone
pub record Bits (has : List ℕ) : Type 0 where
  pub small : (k j : ℕ) → k < length has / 8 → j < 8 → get_or has (8 * k + j) 0 ≤ 1

-- at how many rows of bits these corners are all set
unfoldable pub sides_by : List ℕ → List ℕ → ℕ
sides_by has ks = count (λ k. all (λ j. eqb (get_or has (8 * k + j) 0) 1) ks) (up_to (length has / 8))

-- a table of corners has none past h
unfoldable pub low : List ℕ → Bool
low rows = all (λ j. ltb j 8) rows

-- the tables of a template's triangles, of its quadrilaterals and of its triples on no face have none past h
pub record Lettered (ts qs ws : List ℕ) : Type 0 where
  pub triangles : low ts ≡ true
  pub quads : low qs ≡ true
  pub within : low ws ≡ true

-- What a reader of a neighbour table relies on.
-- Assumes nothing.
use Rattle.std.specs.Prelude.{ℕ, ◌+◌, ◌-◌, ◌<◌, ◌≤◌, ◌≡◌, cond, List, ◌++◌, ltb, length, get_or, take, drop}
use Rattle.tets_around.specs.declared.Row.{Row}
use Rattle.neighbours.specs.between.InLabels.{neighbours_in, table_in}

-- the slice begins with the neighbour table of n vertices
pub record Tabled (ls : List ℕ) (n : ℕ) (table : List ℕ) : Type 0 where
  pub rest : List ℕ
  pub is : table ≡ table_in ls n ++ rest

-- where the row of v stands, by the offsets of a table of n vertices; it is empty where there is no such vertex
unfoldable pub row_in : ℕ → List ℕ → ℕ → Row
row_in n table v =
    cond (ltb v n) (record { from = n + 1 + get_or table v 0; size = get_or table (v + 1) 0 - get_or table v 0 }) (record { from = 0; size = 0 })

-- the offsets do not fall, and every row lies within the table
pub record Rowed (n : ℕ) (table : List ℕ) : Type 0 where
  pub rise : (v : ℕ) → v < n → get_or table v 0 ≤ get_or table (v + 1) 0
  pub within : (v : ℕ) → v < n → n + 1 + get_or table (v + 1) 0 ≤ length table

-- the row r of v in the table has the neighbours of v; it is empty where there is no such vertex
pub record NeighbourRow (ls : List ℕ) (n : ℕ) (table : List ℕ) (v : ℕ) (r : Row) : Type 0 where
  pub inside : r.from + r.size ≤ length table
  pub empty : n ≤ v → r.size ≡ 0
  pub whole : v < n → r.size ≡ length (neighbours_in ls n v)
  pub entries : v < n → (i : ℕ) → i < r.size → get_or table (r.from + i) 0 ≡ get_or (neighbours_in ls n v) i 0

-- the entries of a row of the table
abbrev pub entries_of : List ℕ → Row → List ℕ
entries_of table r = take (r.from + r.size - r.from) (drop r.from table)

-- v is one of them
pub record InRow (table : List ℕ) (r : Row) (v : ℕ) : Type 0 where
  pub place : ℕ
  pub before : place < length (entries_of table r)
  pub is : get_or (entries_of table r) place 0 ≡ v

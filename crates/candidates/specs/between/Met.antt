-- What stands in two rows of neighbours, and from where on it is looked for.
-- Assumes nothing.
use Rattle.std.specs.Prelude.{ℕ, ◌+◌, ◌-◌, ◌≤◌, ◌<◌, ◌≡◌, ◌⊎◌, Bool, true, List, length, get_or}
use Rattle.tets_around.specs.declared.Row.{Row}
use Rattle.neighbours.specs.between.Reading.{entries_of}
use Rattle.levels.specs.between.Levels.{lesser}
use Rattle.candidates.specs.declared.TwoRows.{TwoRows}

-- the entries of a row rise
abbrev pub Rises : List ℕ → Type 0
Rises row = (i j : ℕ) → i < j → j < length row → get_or row i 0 < get_or row j 0

-- r is where the entries from lo on begin
pub record Entered (row : List ℕ) (lo r : ℕ) : Type 0 where
  pub most : r ≤ length row
  pub before : (i : ℕ) → i < r → get_or row i 0 < lo
  pub after : (i : ℕ) → r ≤ i → i < length row → lo ≤ get_or row i 0

-- r is lo, or it is above lo and the first number above the last of those that the place of row x must be above
pub record Raised (t : List ℕ) (x lo r : ℕ) : Type 0 where
  pub low : lo ≤ r
  pub from : (r ≡ lo) ⊎ ((0 < get_or lesser x 0) × (r ≡ get_or t (get_or lesser x 0 - 1) 0 + 1))

-- a row lies within the table, and its entries rise
pub record Served (table : List ℕ) (r : Row) : Type 0 where
  pub inside : r.from + r.size ≤ length table
  pub rises : Rises (entries_of table r)

-- r is above all vertices, or a number from lo on, and no number from lo on that stands in both rows and passes is less
pub record Met (ok : ℕ → Bool) (one two : List ℕ) (lo r : ℕ) : Type 0 where
  pub low : r < 65536 → lo ≤ r
  pub least : (p q : ℕ) → p < length one → q < length two → get_or one p 0 ≡ get_or two q 0 → lo ≤ get_or one p 0 → ok (get_or one p 0) ≡ true → r ≤ get_or one p 0

-- the same of two rows of the table
abbrev pub MetIn : (ℕ → Bool) → List ℕ → TwoRows → ℕ → ℕ → Type 0
MetIn ok table rows lo r = Met ok (entries_of table rows.one) (entries_of table rows.two) lo r

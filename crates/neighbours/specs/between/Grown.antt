-- A list that grows in a room: what stands behind it is not told; and the parts by which a row grows.
-- Assumes nothing.
use Rattle.std.specs.Prelude.{ℕ, ◌+◌, ◌≤◌, ◌≡◌, Bool, List, ◌++◌, length, take}
use Rattle.base.specs.Lists.{keep, from}
use Rattle.matrix.specs.between.Matrix.{next_to}
use Rattle.neighbours.specs.Table.{first_rows}

-- up to `at` l is as `old`, and then come the entries xs, up to `end`
pub record Grown (at end : ℕ) (xs old l : List ℕ) : Type 0 where
  pub same : length l ≡ length old
  pub ends : end ≡ at + length xs
  pub content : take end l ≡ take at old ++ xs

-- of the k vertices from v on, those that f says are next to u, and u not
abbrev pub part_of : (ℕ → ℕ → Bool) → ℕ → ℕ → ℕ → List ℕ
part_of f u v k = keep (next_to f u) (from v k)

-- the offsets fit 16 bits
abbrev pub Few : (ℕ → List ℕ) → Type 0
Few row = (k : ℕ) → length (first_rows row k) ≤ 24576

-- Lists and the length of their file.
-- Assumes nothing.
use Rattle.std.specs.Prelude.{ℕ, ◌+◌, ◌*◌, ◌/◌, ◌≤◌, ◌≡◌, List, ℤ, length}

-- the lists fit each other, and their file has k bytes, which are not too many
pub record Measured (cs : List ℤ) (ls ps : List ℕ) (k : ℕ) : Type 0 where
  pub threes : length cs ≡ 3 * (length cs / 3)
  pub fours : length ls ≡ 4 * length ps
  pub size : k ≡ 24 + 4 * length cs + 10 * length ps
  pub short : k ≤ 26648

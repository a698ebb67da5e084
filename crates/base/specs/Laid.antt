-- A list laid over a part of another: what a run of stores into a lent slice leaves.
-- Assumes nothing.
use Rattle.std.specs.Prelude.{ℕ, ◌+◌, ◌≤◌, ◌≡◌, List, ◌++◌, length, take, drop}

-- l with xs in the place of what it has from `at` on
abbrev pub lay : ℕ → List ℕ → List ℕ → List ℕ
lay at xs l = take at l ++ xs ++ drop (at + length xs) l

-- l is `old` with xs laid over it from `at` on
pub record Laid (at : ℕ) (xs old l : List ℕ) : Type 0 where
  pub room : at + length xs ≤ length old
  pub same : length l ≡ length old
  pub content : l ≡ lay at xs old

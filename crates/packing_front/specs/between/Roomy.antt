-- Lent lists with room for more than any file that is accepted has: 2,219 vertices, or 2,663 tetrahedra, alone make a
-- file that is too long.
-- Assumes nothing.
use Rattle.std.specs.Prelude.{ℕ, ◌≤◌, List, ℤ, length}

pub record Roomy (cs₀ : List ℤ) (ls₀ ps₀ : List ℕ) : Type 0 where
  pub coordinates : 6657 ≤ length cs₀
  pub labels : 10652 ≤ length ls₀
  pub parts : 2663 ≤ length ps₀

-- What code over working arrays goes by: the tetrahedra around a vertex, and numbers in bounds.
-- Assumes nothing.
use Rattle.std.specs.Prelude.{ℕ, ◌/◌, List, ℤ, pos, length, get_or}
use Rattle.base.specs.Lists.{keep, up_to, is_in}
use Rattle.base.specs.between.Size.{Small}
use Rattle.space.specs.declared.Point.{Point}
use Rattle.space.specs.Arrays.{row4}

-- the numbers of the tetrahedra around a vertex, rising
unfoldable pub around : List ℕ → ℕ → List ℕ
around ls u = keep (λ i. is_in u (row4 ls i)) (up_to (length ls / 4))

-- every number of the list is a coordinate in bounds
pub record Close (zs : List ℤ) : Type 0 where
  pub close : (i : ℕ) → Small 50000 (get_or zs i (pos 0))

-- each coordinate is at most n in size
pub record Sized (n : ℕ) (p : Point) : Type 0 where
  pub x : Small n p.x
  pub y : Small n p.y
  pub z : Small n p.z

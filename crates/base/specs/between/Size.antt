-- How large a signed number is.
-- Assumes nothing.
use Rattle.std.specs.Prelude.{ℕ, ◌≤◌, ℤ, nat_abs}

-- z is at most n in size. A record, so that a proof finds n and z
pub record Small (n : ℕ) (z : ℤ) : Type 0 where
  pub small : nat_abs z ≤ n

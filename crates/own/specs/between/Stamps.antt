-- What a test of one tetrahedron tells, and stamps: a table of 512 places in which each corner of a cell has one.
-- Assumes nothing.
use Rattle.std.specs.Prelude.{ℕ, ◌%◌, ◌≤◌, ◌<◌, ◌≡◌, Bool, true, false, not, List, eqb, length, get_or}

-- j passes the test b and is not below lo
pub record Hit (b : Bool) (lo j : ℕ) (r : Bool) : Type 0 where
  pub is : r ≡ true → (lo ≤ j) × (b ≡ true)
  pub none : r ≡ false → lo ≤ j → b ≡ false

-- there is a stamp for v
abbrev pub has_stamp : List ℕ → ℕ → Bool
has_stamp m v = not (eqb (get_or m (v % 512) 0) 0)

-- there is one for each of the first k numbers of c
pub record Stamped (c : List ℕ) (k : ℕ) (m : List ℕ) : Type 0 where
  pub long : 512 ≡ length m
  pub each : (i : ℕ) → i < k → has_stamp m (get_or c i 0) ≡ true

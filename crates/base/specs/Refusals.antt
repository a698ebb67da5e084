-- Refusals in the order in which they are tested. A later one that joins is one line of a list.
-- Assumes nothing.
use Rattle.std.specs.Prelude.{ℕ, Bool, cond, List, [], ◌∷◌}

-- a number, and whether it applies
pub record Refusal : Type 0 where
  pub no : ℕ
  pub applies : Bool

abbrev pub refuse : ℕ → Bool → Refusal
refuse k b = record { no = k; applies = b }

-- the number of the first that applies, and 0 where none does
unfoldable pub first_of : List Refusal → ℕ
first_of [] = 0
first_of (r ∷ rs) = cond r.applies r.no (first_of rs)

-- What stores into a table add up to: all that was told stays told, and whatever is asked for is told.
-- Assumes nothing.
use Rattle.std.specs.Prelude.{ℕ, ◌<◌, ◌≡◌, List, length}

-- m' tells what m tells, and what is asked for
pub record Stores {A : Type 0} (Told : List ℕ → A → Type 0) (m m' : List ℕ) (asked : A → Type 0) : Type 0 where
  pub same : length m' ≡ length m
  pub kept : (a : A) → Told m a → Told m' a
  pub made : (a : A) → asked a → Told m' a

-- one of the first i asks for it
pub record Below {A : Type 0} (asks : ℕ → A → Type 0) (i : ℕ) (a : A) : Type 0 where
  pub which : ℕ
  pub before : which < i
  pub held : asks which a

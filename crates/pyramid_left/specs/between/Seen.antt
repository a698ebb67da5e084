-- That a pyramid remains, told by one.
-- Assumes nothing.
use Rattle.std.specs.Prelude.{ℕ, ◌≤◌, ◌≡◌, true, List, get_or}
use Rattle.space.specs.Mesh.{Mesh}
use Rattle.templates.specs.Tables.{pyramid}
use Rattle.rule.specs.between.Leaf.{is_leaf}

-- a tuple that is a pyramid of the list, and its first corner is lo or above
pub record Seen (m : Mesh) (lo : ℕ) : Type 0 where
  pub tuple : List ℕ
  pub leaf : is_leaf m pyramid tuple ≡ true
  pub first : lo ≤ get_or tuple 0 0

-- The four counts at a quadrilateral, as the code looks at them.
-- Assumes nothing.
use Rattle.std.specs.Prelude.{ℕ, Bool, ◌&&◌, [], ◌∷◌}
use Rattle.base.specs.Lists.{all}
use Rattle.cells.specs.Cells.{one, none_or_two}

-- the triangles of one diagonal, with the counts a and b, are on the boundary, and those of the other, with d and e,
-- are not
unfoldable pub is_diagonal : ℕ → ℕ → ℕ → ℕ → Bool
is_diagonal a b d e = all one (a ∷ b ∷ []) && all none_or_two (d ∷ e ∷ [])

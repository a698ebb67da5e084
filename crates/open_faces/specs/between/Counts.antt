-- Condition 5's counts by a mesh's labels: the cell has the corners c, and its quadrilaterals are laid flat in qs.
-- Assumes nothing.
use Rattle.std.specs.Prelude.{ℕ, List}
use Rattle.base.specs.Lists.{count}
use Rattle.tets_around.specs.Sharing.{has_all}
use Rattle.templates.specs.Tables.{at}
use Rattle.cells.specs.between.Rows.{own_numbers_by}

-- how many of the cell's tetrahedra have all of these vertices
abbrev pub sides_at : List ℕ → List ℕ → List ℕ → List ℕ → ℕ
sides_at ls qs c vs = count (has_all ls vs) (own_numbers_by ls qs c)

-- the same for the vertices at places of x
abbrev pub sides_in : List ℕ → List ℕ → List ℕ → List ℕ → List ℕ → ℕ
sides_in ls qs c x ks = sides_at ls qs c (at x ks)

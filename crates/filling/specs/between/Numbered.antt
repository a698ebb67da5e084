-- The numbers of a cell's tetrahedra, as they are found.
-- Assumes nothing.
use Rattle.std.specs.Prelude.{ℕ, ◌+◌, ◌≡◌, cond, List, ltb, length, take, set}
use Rattle.base.specs.Lists.{pad}
use Rattle.record.specs.Entries.{tet_places, unused}
use Rattle.filling.specs.declared.Tets.{Tets}

-- these are the numbers found: how many, told also where there are more than a record has places for, and the first
-- of them
pub record Numbered (xs : List ℕ) (f : Tets) : Type 0 where
  pub count : f.count ≡ length xs
  pub list : f.list ≡ pad tet_places unused (take tet_places xs)

-- one number more
abbrev pub pushed : Tets → ℕ → Tets
pushed f i = record { count = f.count + 1; list = cond (ltb f.count tet_places) (set f.list f.count i) f.list }

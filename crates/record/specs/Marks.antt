-- Marks: a kind and eight numbers, as lists and as the code has them.
-- Assumes nothing.
use Rattle.std.specs.Prelude.{ℕ, List, [], ◌∷◌, get_or}
use Rattle.base.specs.Lists.{pad}
use Rattle.cells.specs.Full.{Cell}
use Rattle.record.specs.Entries.{corner_places}
use Rattle.record.specs.declared.Mark.{Mark}

-- the mark of a cell, one before all cells, and one after all
abbrev pub cell_mark : Cell → List ℕ
cell_mark c = c.kind ∷ pad corner_places 0 c.corners

abbrev pub start_mark : List ℕ
start_mark = 65535 ∷ pad corner_places 0 []

abbrev pub end_mark : List ℕ
end_mark = 0 ∷ pad corner_places 0 []

-- the numbers of a mark in the code, in letter order
abbrev pub mark_corners : Mark → List ℕ
mark_corners m = m.a ∷ m.b ∷ m.c ∷ m.d ∷ m.e ∷ m.f ∷ m.g ∷ m.h ∷ []

abbrev pub mark_of : Mark → List ℕ
mark_of m = m.kind ∷ mark_corners m

-- nine numbers, 0 where there are none
abbrev pub nine : List ℕ → List ℕ
nine xs =
    get_or xs 0 0 ∷ get_or xs 1 0 ∷ get_or xs 2 0 ∷ get_or xs 3 0 ∷ get_or xs 4 0 ∷ get_or xs 5 0 ∷ get_or xs 6 0 ∷ get_or xs 7 0 ∷ get_or xs 8 0 ∷ []

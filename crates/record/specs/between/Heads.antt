-- The record of a cell by its mark, as it is written.
-- Assumes nothing.
use Rattle.std.specs.Prelude.{ℕ, List, [], ◌∷◌, ◌++◌, get_or, drop}
use Rattle.base.specs.Lists.{pad}
use Rattle.templates.specs.Tables.{tuple_of}
use Rattle.cells.specs.Full.{Cell, cell}
use Rattle.record.specs.Entries.{corner_places, unused}

-- the corners that a mark names, as many as its kind has
abbrev pub corners_of : List ℕ → List ℕ
corners_of k = tuple_of (get_or k 0 0) (drop 1 k)

-- the cell of a mark with the tetrahedra of these numbers
abbrev pub cell_from : List ℕ → List ℕ → Cell
cell_from k ts = cell (get_or k 0 0) (corners_of k) ts

-- the entries before the tetrahedra's numbers: kind, corners and count
unfoldable pub head_of : List ℕ → ℕ → List ℕ
head_of k count = (get_or k 0 0 ∷ pad corner_places unused (corners_of k)) ++ (count ∷ [])

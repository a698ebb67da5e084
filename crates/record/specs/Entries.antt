-- A cell's record, entry by entry: its kind, its corners, how many tetrahedra it has, and their numbers.
-- How many places there are for each, and so where each stands and how long a record is, is said here alone;
-- src/lib.rt has the same as constants.
-- Assumes nothing.
use Rattle.std.specs.Prelude.{ℕ, ◌+◌, Bool, List, ◌∷◌, ◌++◌, leb, length, get_or, take, drop}
use Rattle.base.specs.Lists.{pad}
use Rattle.templates.specs.Tables.{tuple_of}
use Rattle.cells.specs.Full.{Cell, cell}

-- places for corners and for tetrahedra, and what stands in one that is not used
abbrev pub corner_places : ℕ
corner_places = 8

abbrev pub tet_places : ℕ
tet_places = 25

abbrev pub unused : ℕ
unused = 65535

-- where the count and the tetrahedra stand, behind the kind and the corners
abbrev pub count_at : ℕ
count_at = 1 + corner_places

abbrev pub tets_at : ℕ
tets_at = count_at + 1

abbrev pub record_size : ℕ
record_size = tets_at + tet_places

-- a record can hold the cell
abbrev pub fits : Cell → Bool
fits c = leb (length c.tets) tet_places

-- the entries of a cell that fits
unfoldable pub entries : Cell → List ℕ
entries c =
    (c.kind ∷ pad corner_places unused c.corners) ++ (length c.tets ∷ pad tet_places unused c.tets)

-- the cell that entries tell
unfoldable pub cell_of : List ℕ → Cell
cell_of xs =
    let k = get_or xs 0 0 in
    cell k (tuple_of k (drop 1 xs)) (take (get_or xs count_at 0) (drop tets_at xs))

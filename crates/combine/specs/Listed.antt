-- The lines of a listing.
-- Assumes nothing.
use Rattle.std.specs.Prelude.{ℕ, zero, suc, ◌+◌, ◌*◌, List, [], ◌++◌, slice_range}
use Rattle.record.specs.Entries.{record_size}
use Rattle.lines.specs.Text.{cell_line}

-- the lines of the first k records
unfoldable pub cell_lines : List ℕ → ℕ → List ℕ
cell_lines r zero = []
cell_lines r (suc k) = cell_lines r k ++ cell_line (slice_range r (record_size * k) (record_size * k + record_size))

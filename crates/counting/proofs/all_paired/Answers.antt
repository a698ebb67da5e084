-- `counting::all_paired` meets its contract. Assumes nothing.
use Prim.Native.Nat.{◌/◌}
use lib.ListN.{length}
use Rattle.std.proofs.Common.{rules}
use Rattle.templates.proofs.Rows.{all_rows}
use Rattle.cells.specs.Cells.{paired}
use Rattle.cells.specs.between.Rows.{row3}
use Rattle.counting.specs.between.Bits.{sides_by}
use Rattle.counting.proofs.all_paired.Goals as goal

pub returns : goal.returns
returns c = let a = c.args in
    all_rows (paired (sides_by a.has.now)) (row3 a.rows.now) (length a.rows.now / 3) c.all.ensures.ran (λ x b q g. search rules)

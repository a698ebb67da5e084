-- `counting::all_once` meets its contract. Assumes nothing.
use Prim.Native.Nat.{◌/◌}
use lib.ListN.{length}
use Rattle.std.proofs.Common.{rules}
use Rattle.templates.proofs.Rows.{all_rows}
use Rattle.cells.specs.Cells.{one, once}
use Rattle.cells.specs.between.Rows.{row3}
use Rattle.counting.specs.between.Bits.{sides_by}
use Rattle.counting.proofs.all_once.Goals as goal

pub returns : goal.returns
unfolding one
returns c = let a = c.args in
    all_rows (once (sides_by a.has.now)) (row3 a.rows.now) (length a.rows.now / 3) c.all.ensures.ran (λ x b q g. search rules)

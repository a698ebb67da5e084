-- `counting::all_covered` meets its contract. Assumes nothing.
use Prim.Native.Nat.{◌/◌}
use lib.ListN.{length}
use Rattle.std.proofs.Common.{rules}
use Rattle.templates.proofs.Rows.{all_rows}
use Rattle.space.specs.Arrays.{row4}
use Rattle.cells.specs.Cells.{covers}
use Rattle.counting.specs.between.Bits.{sides_by}
use Rattle.counting.proofs.all_covered.Goals as goal

pub returns : goal.returns
returns c = let a = c.args in
    all_rows (covers (sides_by a.has.now)) (row4 a.quads.now) (length a.quads.now / 4) c.all.ensures.ran (λ x b q g. search rules)

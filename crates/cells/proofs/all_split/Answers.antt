-- `cells::all_split` meets its contract. Assumes nothing.
use Prim.Native.Nat.{◌/◌}
use lib.ListN.{length}
use Rattle.std.proofs.Common.{rules}
use Rattle.space.specs.Arrays.{row4}
use Rattle.templates.proofs.Rows.{all_rows}
use Rattle.cells.specs.Cells.{splits}
use Rattle.cells.specs.between.Rows.{facet_in}
use Rattle.cells.proofs.all_split.Goals as goal

pub returns : goal.returns
returns c = let a = c.args in
    all_rows (splits (facet_in a.ix.now.labels.now a.c.now)) (row4 a.rows.now) (length a.rows.now / 4) c.all.ensures.ran (λ x b q g. search rules)

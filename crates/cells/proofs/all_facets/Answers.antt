-- `cells::all_facets` meets its contract. Assumes nothing.
use Prim.Native.Nat.{◌/◌}
use lib.ListN.{length}
use Rattle.std.proofs.Common.{rules}
use Rattle.templates.proofs.Rows.{all_rows}
use Rattle.cells.specs.between.Rows.{row3, facet_in}
use Rattle.cells.proofs.all_facets.Goals as goal

pub returns : goal.returns
returns c = let a = c.args in
    all_rows (facet_in a.ix.now.labels.now a.c.now) (row3 a.rows.now) (length a.rows.now / 3) c.all.ensures.ran (λ x b q g. search rules)

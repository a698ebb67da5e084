-- `cells::has_edges` meets its contract. Assumes nothing.
use Prim.Native.Nat.{◌/◌}
use lib.ListN.{length}
use Rattle.std.proofs.Common.{rules}
use Rattle.tets_around.specs.Sharing.{together_in}
use Rattle.templates.specs.Tables.{at}
use Rattle.templates.specs.between.Flat.{pair_at}
use Rattle.templates.proofs.Rows.{all_rows}
use Rattle.cells.proofs.has_edges.Goals as goal

pub returns : goal.returns
returns c = let a = c.args in
    all_rows (λ ks. together_in a.ix.now.labels.now (at a.c.now ks)) (pair_at a.edges.now) (length a.edges.now / 2) c.all.ensures.ran (λ x b q g. search rules)

-- `own::on_some_quad` meets its contract. Assumes nothing.
use Prim.Native.Nat.{◌/◌}
use lib.ListN.{length}
use Rattle.std.proofs.Common.{rules}
use Rattle.base.specs.Lists.{all, is_in}
use Rattle.space.specs.Arrays.{row4}
use Rattle.templates.specs.Tables.{at}
use Rattle.templates.proofs.Rows.{any_rows}
use Rattle.own.proofs.on_some_quad.Goals as goal

pub returns : goal.returns
returns c = let a = c.args in
    any_rows (λ q. all (λ v. is_in v (at a.c.now q)) (row4 a.labels.now a.e.0)) (row4 a.rows.now) (length a.rows.now / 4) c.any.ensures.ran (λ x b q g. search rules)

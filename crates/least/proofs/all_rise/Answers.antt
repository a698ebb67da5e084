-- `least::all_rise` meets its contract. Assumes nothing.
use Prim.Native.Nat.{◌/◌}
use lib.ListN.{length}
use Rattle.std.proofs.Common.{rules}
use Rattle.templates.specs.Tables.{at}
use Rattle.templates.specs.between.Flat.{pair_at}
use Rattle.templates.proofs.Rows.{all_rows}
use Rattle.least.specs.Least.{first_is_less, rises_at}
use Rattle.least.proofs.all_rise.Goals as goal

pub returns : goal.returns
unfolding rises_at
returns c = let a = c.args in
    all_rows (λ p. first_is_less (at a.c.now p)) (pair_at a.less.now) (length a.less.now / 2) c.all.ensures.ran (λ x b q g. search rules)

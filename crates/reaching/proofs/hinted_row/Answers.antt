-- `reaching::hinted_row` meets its contract. Assumes nothing.
use native.Mathlib.Omega.{arith}
use Rattle.reaching.proofs.Least.{row-none, row_more, row-all}
use Rattle.reaching.proofs.hinted_row.Goals as goal

pub loop-y-init : goal.loop-y-init
loop-y-init c = row-none

pub loop-y-preserved : goal.loop-y-preserved
loop-y-preserved c = row_more c.loop-y.invariant c.hinted_at-b.ensures

pub returns : goal.returns
returns c = row-all c.loop-y.invariant (omega arith)

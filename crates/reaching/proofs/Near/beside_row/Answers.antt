-- `reaching::Near::beside_row` meets its contract. Assumes nothing.
use native.Mathlib.Omega.{arith}
use Rattle.reaching.proofs.Least.{row-none, row_more, row-all}
use Rattle.reaching.proofs.Near.beside_row.Goals as goal

pub loop-x-init : goal.loop-x-init
loop-x-init c = row-none

pub beside-b-requires : goal.beside-b-requires
beside-b-requires c = omega (arith, c.loop-x.invariant.most)

pub loop-x-preserved : goal.loop-x-preserved
loop-x-preserved c = row_more c.loop-x.invariant c.beside-b.ensures

pub returns : goal.returns
returns c = row-all c.loop-x.invariant (omega arith)

-- `reaching::next_hinted` meets its contract. Assumes nothing.
use native.Mathlib.Omega.{arith}
use Rattle.reaching.proofs.Least.{denied, passed_none, passed_on, passed_here, passed-all}
use Rattle.reaching.proofs.next_hinted.Goals as goal

pub loop-v-init : goal.loop-v-init
loop-v-init c = passed_none

pub returns-then-is_hinted : goal.returns-then-is_hinted
returns-then-is_hinted c = passed_here c.loop-v.invariant (omega arith)

pub loop-v-preserved : goal.loop-v-preserved
loop-v-preserved c = passed_on c.loop-v.invariant (denied c.is_hinted.ensures c.if-is_hinted.false)

pub returns : goal.returns
returns c = passed-all c.loop-v.invariant (omega arith)

-- `hunting::hunt` meets its contract. Assumes nothing.
use native.Mathlib.Omega.{arith}
use Rattle.hunting.proofs.Leaping.{passed_none, passed-next, hunted, hunted_none, hunt-less, goes_follows, stops_goes}
use Rattle.hunting.proofs.hunt.Goals as goal

pub loop-v-init : goal.loop-v-init
loop-v-init c = passed_none

pub returns-then-goes_on : goal.returns-then-goes_on
returns-then-goes_on c = hunted c.loop-v.invariant (goes_follows (rw c.in-Some.is at c.aim_at.ensures)) c.next_following-r.ensures

pub overflow_add-v : goal.overflow_add-v
overflow_add-v c = omega (arith, c.next_following-r.ensures.most, c.args.near.now.lent.few)

pub loop-v-smaller : goal.loop-v-smaller
loop-v-smaller c = hunt-less c.next_following-r.ensures (omega arith) (omega arith)

pub loop-v-preserved : goal.loop-v-preserved
loop-v-preserved c = passed-next c.loop-v.invariant (goes_follows (rw c.in-Some.is at c.aim_at.ensures)) c.next_following-r.ensures (omega arith) (stops_goes _ _ _ c.goes_on.ensures) c.if-goes_on.false

pub returns : goal.returns
returns c = hunted_none c.loop-v.invariant (omega arith)

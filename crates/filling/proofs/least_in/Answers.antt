-- `filling::least_in` meets its contract. Assumes nothing.
use mathlib.Core.Path.{◌≡◌}
use lib.ListN.{length}
use native.Mathlib.Omega.{arith}
use Rattle.filling.proofs.Nearby.{passed-next, least-none, least-past, least_hit}
use Rattle.filling.proofs.least_in.Goals as goal

pub loop-at-init : goal.loop-at-init
loop-at-init c = c.requires.stamped.1

pub overflow_cast-j : goal.overflow_cast-j
overflow_cast-j c = omega (arith, c.requires.within.0.below c.loop-at.at (omega arith))

pub returns-then-s-j : goal.returns-then-s-j
returns-then-s-j c = (least-past c.loop-at.invariant c.requires.within.1 (omega arith) (omega arith), c.loop-at.invariant)

pub is_hit-requires : goal.is_hit-requires
is_hit-requires c = (omega (arith, c.requires.within.0.below c.loop-at.at (omega arith)), c.requires.stamped.0)

pub returns-then-is_hit : goal.returns-then-is_hit
returns-then-is_hit c = (least_hit c.loop-at.invariant c.requires.within.1 (omega arith) (omega arith) c.is_hit.ensures c.if-is_hit.true, c.loop-at.invariant)

pub loop-at-preserved : goal.loop-at-preserved
loop-at-preserved c = passed-next c.loop-at.invariant (omega arith) c.is_hit.ensures c.if-is_hit.false

pub returns : goal.returns
returns c = let l = c.loop-at in let e : l.at ≡ length c.args.row.now = omega (arith, c.requires.stamped.1.low, l.auto.at-end) in (least-none l.invariant c.args.s.hi (omega arith), rw e at l.invariant)

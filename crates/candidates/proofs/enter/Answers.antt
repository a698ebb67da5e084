-- `candidates::enter` meets its contract. Assumes nothing.
use native.Mathlib.Omega.{arith}
use Rattle.candidates.proofs.Meeting.{halved_none, halved_up, halved_down, entered_here}
use Rattle.candidates.proofs.enter.Goals as goal

pub loop-low-init : goal.loop-low-init
loop-low-init c = halved_none _ _

pub overflow_add-mid : goal.overflow_add-mid
overflow_add-mid c = omega (arith, c.loop-low.invariant.within)

pub offset_bounds-row-mid : goal.offset_bounds-row-mid
offset_bounds-row-mid c = omega (arith, c.loop-low.invariant.within)

pub bounds-row-mid : goal.bounds-row-mid
bounds-row-mid c = omega (arith, c.loop-low.invariant.within)

pub overflow_add-low : goal.overflow_add-low
overflow_add-low c = omega (arith, c.loop-low.invariant.within)

pub loop-low-preserved-then-wide-lo : goal.loop-low-preserved-then-wide-lo
loop-low-preserved-then-wide-lo c = halved_up c.loop-low.invariant c.requires (omega arith) (omega arith) (omega (arith, c.if-wide-lo.true, c.wide.ensures.0))

pub loop-low-preserved : goal.loop-low-preserved
loop-low-preserved c = halved_down c.loop-low.invariant c.requires (omega arith) (omega arith) (omega (arith, c.if-wide-lo.false, c.wide.ensures.0))

pub returns : goal.returns
returns c = entered_here c.loop-low.invariant (omega arith)

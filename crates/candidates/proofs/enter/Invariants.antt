-- `candidates::enter` meets its contract. Assumes nothing.
use Prim.Native.Nat.{◌-◌}
use Rattle.candidates.proofs.Meeting.{Halved}
use Rattle.candidates.proofs.enter.Given as goal

abbrev pub invariant-loop-low : goal.invariant-loop-low
invariant-loop-low l = Halved l.row l.lo l.low l.high

abbrev pub decreases-loop-low : goal.decreases-loop-low
decreases-loop-low l = l.high - l.low

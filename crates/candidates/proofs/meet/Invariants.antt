-- `candidates::meet` meets its contract. Assumes nothing.
use Prim.Native.Nat.{◌+◌, ◌-◌}
use lib.ListN.{length}
use Rattle.levels.specs.between.Passing.{passes_with}
use Rattle.candidates.proofs.Meeting.{Onward}
use Rattle.candidates.proofs.meet.Given as goal

abbrev pub invariant-loop-i : goal.invariant-loop-i
invariant-loop-i l = Onward (passes_with l.spot.coords.now l.hints l.spot.place) l.one l.two l.lo l.i l.j

abbrev pub decreases-loop-i : goal.decreases-loop-i
decreases-loop-i l = (length l.one - l.i) + (length l.two - l.j)

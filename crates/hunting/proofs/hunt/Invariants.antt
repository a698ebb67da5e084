-- `hunting::hunt` meets its contract. Assumes nothing.
use Prim.Native.Nat.{◌-◌}
use Rattle.hunting.specs.between.Goes.{Goes}
use Rattle.hunting.proofs.Leaping.{Passed}
use Rattle.hunting.proofs.hunt.Given as goal

abbrev pub invariant-loop-v : goal.invariant-loop-v
invariant-loop-v l = Passed (Goes l.spot.coords.now l.near.n l.near.table.now l.near.hints.now l.spot.place) l.near.n l.lo l.v

abbrev pub decreases-loop-v : goal.decreases-loop-v
decreases-loop-v l = l.near.n - l.v

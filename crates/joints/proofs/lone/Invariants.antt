-- `joints::lone` meets its contract. Assumes nothing.
use Rattle.joints.specs.between.Joints.{lacks}
use Rattle.joints.proofs.Only.{Sole}
use Rattle.joints.proofs.lone.Given as goal

abbrev pub invariant-loop-i : goal.invariant-loop-i
invariant-loop-i l = Sole (lacks l.labels l.at l.m.0) l.i l.found

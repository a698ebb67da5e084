-- The loop's invariant: the room has grown by what the vertices passed give. Assumes nothing.
use Prim.Native.Nat.{◌-◌, ◌<◌}
use lib.ListN.{length}
use Rattle.neighbours.specs.between.Grown.{Grown, part_of}
use Rattle.matrix.specs.between.Matrix.{is_joined}
use Rattle.neighbours.proofs.put_part.Given as goal

abbrev pub invariant-loop-w : goal.invariant-loop-w
invariant-loop-w l = (l.at < length l.initial.rows) × Grown l.from l.at (part_of (is_joined l.m) l.u.0 l.v (l.w - l.v)) l.initial.rows l.rows

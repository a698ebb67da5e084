-- The loop's invariant: the room has grown by the row as far as the blocks go. Assumes nothing.
use Prim.Native.Nat.{◌*◌}
use Rattle.neighbours.specs.Table.{neighbour_row}
use Rattle.neighbours.specs.between.Grown.{Grown}
use Rattle.matrix.specs.between.Matrix.{is_joined}
use Rattle.neighbours.proofs.put_row.Given as goal

abbrev pub invariant-loop-i : goal.invariant-loop-i
invariant-loop-i l = Grown l.from l.at (neighbour_row (is_joined l.m) (16 * l.i) l.u.0) l.initial.rows l.rows

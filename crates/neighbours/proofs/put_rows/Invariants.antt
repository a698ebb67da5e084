-- The loop's invariant: both rooms have grown by what the rows passed give. Assumes nothing.
use Rattle.neighbours.specs.Table.{neighbour_row, first_rows}
use Rattle.neighbours.specs.between.Grown.{Grown}
use Rattle.matrix.specs.between.Matrix.{is_joined}
use Rattle.neighbours.proofs.Rows.{offs}
use Rattle.neighbours.proofs.put_rows.Given as goal

abbrev pub invariant-loop-u : goal.invariant-loop-u
invariant-loop-u l = Grown 0 l.u (offs (neighbour_row (is_joined l.m) l.n) l.u) l.initial.starts l.starts × Grown 0 l.at (first_rows (neighbour_row (is_joined l.m) l.n) l.u) l.initial.rows l.rows

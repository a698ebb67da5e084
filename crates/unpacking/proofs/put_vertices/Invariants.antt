-- `unpacking::put_vertices` meets its contract. The loop's invariant: the rows passed are laid from `from` on.
-- Assumes nothing.
use Rattle.writing_lists.specs.Printed.{line_of, vertex_row}
use Rattle.unpacking.proofs.Rows.{RowsLaid}
use Rattle.unpacking.proofs.put_vertices.Given as goal

abbrev pub invariant-loop-v : goal.invariant-loop-v
invariant-loop-v l = RowsLaid (λ v'. line_of (vertex_row l.coordinates v')) l.from l.v l.at l.initial.out l.out

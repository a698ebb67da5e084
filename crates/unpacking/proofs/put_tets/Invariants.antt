-- `unpacking::put_tets` meets its contract. The loop's invariant: the rows passed are laid from `from` on.
-- Assumes nothing.
use Rattle.writing_lists.specs.Printed.{line_of, tet_row}
use Rattle.unpacking.proofs.Rows.{RowsLaid}
use Rattle.unpacking.proofs.put_tets.Given as goal

abbrev pub invariant-loop-j : goal.invariant-loop-j
invariant-loop-j l = RowsLaid (λ j'. line_of (tet_row l.labels l.parts j')) l.from l.j l.at l.initial.out l.out

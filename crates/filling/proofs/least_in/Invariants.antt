-- `filling::least_in` meets its contract. Assumes nothing.
use Rattle.cells.specs.between.Rows.{fours, owns}
use Rattle.filling.specs.between.Next.{ReadUpTo}
use Rattle.filling.proofs.least_in.Given as goal

abbrev pub invariant-loop-at : goal.invariant-loop-at
invariant-loop-at l = ReadUpTo (owns l.labels (fours l.quads) l.c) l.s.lo l.row l.at

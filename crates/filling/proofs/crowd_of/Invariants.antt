-- `filling::crowd_of` meets its contract. Assumes nothing.
use Rattle.cells.specs.between.Rows.{fours, owns}
use Rattle.filling.specs.between.Next.{Aside, left_out}
use Rattle.filling.proofs.crowd_of.Given as goal

abbrev pub invariant-loop-i : goal.invariant-loop-i
invariant-loop-i l = Aside (owns l.ix.labels.now (fours l.quads) l.c) l.ix.labels.now (left_out l.w)

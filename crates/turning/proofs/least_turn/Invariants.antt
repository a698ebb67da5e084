-- `turning::least_turn` meets its contract. Assumes nothing.
use mathlib.Core.List.{[]}
use Rattle.templates.specs.Tables.{at}
use Rattle.templates.specs.between.Eight.{eight}
use Rattle.templates.specs.between.Flat.{table_row, pairs}
use Rattle.least.specs.Least.{rises_at}
use Rattle.turning.proofs.Last.{LastUp}
use Rattle.turning.proofs.least_turn.Given as goal

abbrev pub invariant-loop-i : goal.invariant-loop-i
invariant-loop-i l = LastUp (rises_at (pairs l.less)) (λ i'. eight (at l.c (table_row l.k l.turns i'))) l.n (eight []) l.i l.best

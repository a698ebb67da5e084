-- `templates::all_distinct` meets its contract. Assumes nothing.
use Rattle.base.proofs.Loop.{DistinctUp}
use Rattle.templates.proofs.all_distinct.Given as goal

abbrev pub invariant-loop-i : goal.invariant-loop-i
invariant-loop-i l = DistinctUp l.c l.i

-- `reaching::hinted_row` meets its contract. Assumes nothing.
use Rattle.reaching.specs.between.Reaching.{LeastAsked, ByRow, HintedNext}
use Rattle.reaching.proofs.hinted_row.Given as goal

abbrev pub invariant-loop-y : goal.invariant-loop-y
invariant-loop-y l = LeastAsked (ByRow (HintedNext l.hints l.u.0 l.x.0) l.row l.y-index) l.lo l.best l.b

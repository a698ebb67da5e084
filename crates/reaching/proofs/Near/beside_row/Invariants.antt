-- `reaching::Near::beside_row` meets its contract. Assumes nothing.
use Rattle.reaching.specs.between.Reaching.{LeastAsked, ByRow, Links}
use Rattle.reaching.proofs.Near.beside_row.Given as goal

abbrev pub invariant-loop-x : goal.invariant-loop-x
invariant-loop-x l = LeastAsked (ByRow (Links l.self.n l.self.table.now l.self.hints.now l.e) l.row l.x-index) l.lo l.best l.b

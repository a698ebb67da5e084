-- `linking::sole_row` meets its contract. Assumes nothing.
use Rattle.reaching.specs.between.Reaching.{ByRow}
use Rattle.linking.specs.between.Met.{AllMet, LinkAt}
use Rattle.linking.proofs.sole_row.Given as goal

abbrev pub invariant-loop-x : goal.invariant-loop-x
invariant-loop-x l = AllMet (ByRow (LinkAt l.near.n l.near.table.now l.near.hints.now l.e l.v.0) l.row l.x-index) l.s

-- The loop's invariant: the tetrahedra passed are told. Assumes nothing.
use Rattle.base.specs.between.Stores.{Below}
use Rattle.facet_pairs.specs.between.Pairs.{Puts, PairsAsked}
use Rattle.facet_pairs.proofs.put_all.Given as goal

abbrev pub invariant-loop-i : goal.invariant-loop-i
invariant-loop-i l = Puts l.initial.pairs l.pairs (Below (PairsAsked l.labels) l.i)

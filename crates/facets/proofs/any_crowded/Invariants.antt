-- `facets::any_crowded` meets its contract. Assumes nothing.
use Prim.Native.Nat.{◌/◌}
use lib.ListN.{length}
use Rattle.base.proofs.Loop.{AnyUp}
use Rattle.facets.specs.Facets.{crowded}
use Rattle.facets.proofs.any_crowded.Given as goal

abbrev pub invariant-loop-j : goal.invariant-loop-j
invariant-loop-j l = AnyUp (crowded l.ix.labels.now) (λ i. i) (length l.ix.labels.now / 4) l.j

-- `facets::any_folded` meets its contract. Assumes nothing.
use Prim.Native.Nat.{◌/◌}
use lib.ListN.{length}
use Rattle.base.proofs.Loop.{AnyUp}
use Rattle.facets.specs.Facets.{folded}
use Rattle.facets.proofs.any_folded.Given as goal

abbrev pub invariant-loop-j : goal.invariant-loop-j
invariant-loop-j l = AnyUp (folded l.coords l.ix.labels.now) (λ i. i) (length l.ix.labels.now / 4) l.j

-- `facets::is_crowded` meets its contract. Assumes nothing.
use lib.ListN.{length, get_or}
use Rattle.base.proofs.Loop.{AnyUp}
use Rattle.facets.specs.Facets.{full}
use Rattle.facets.specs.between.Tries.{at_facet}
use Rattle.facets.proofs.Pairing.{no_facet}
use Rattle.facets.proofs.is_crowded.Given as goal

abbrev pub invariant-loop-f : goal.invariant-loop-f
invariant-loop-f l = AnyUp (λ f. at_facet (full l.ix.labels.now) f) (λ i. get_or l.f-items i no_facet) (length l.f-items) l.f-index

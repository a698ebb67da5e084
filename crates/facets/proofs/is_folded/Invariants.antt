-- `facets::is_folded` meets its contract. Assumes nothing.
use lib.ListN.{length, get_or}
use Rattle.base.proofs.Loop.{AnyUp}
use Rattle.facets.specs.Facets.{clashing}
use Rattle.facets.specs.between.Tries.{at_facet}
use Rattle.facets.proofs.Pairing.{no_facet}
use Rattle.facets.proofs.is_folded.Given as goal

abbrev pub invariant-loop-f : goal.invariant-loop-f
invariant-loop-f l = AnyUp (λ f. at_facet (clashing l.coords l.ix.labels.now f.e.0) f) (λ i. get_or l.f-items i no_facet) (length l.f-items) l.f-index

-- `facets::any_clash` meets its contract. Assumes nothing.
use lib.ListN.{length, get_or}
use Rattle.base.proofs.Loop.{AnyUp}
use Rattle.facets.specs.Facets.{clashes}
use Rattle.facets.specs.between.Tries.{at_facet}
use Rattle.facets.proofs.any_clash.Given as goal

abbrev pub invariant-loop-m : goal.invariant-loop-m
invariant-loop-m l = AnyUp (at_facet (clashes l.coords l.labels l.f.e.0) l.f) (λ i. get_or l.row i 0) (length l.row) l.m-index

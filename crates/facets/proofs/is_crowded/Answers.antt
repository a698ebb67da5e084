-- `facets::is_crowded` meets its contract. Assumes nothing.
use mathlib.Core.Path.{sym, ◌∙◌, ap}
use native.Mathlib.Omega.{arith}
use Rattle.base.specs.Lists.{any}
use Rattle.base.proofs.Loop.{any_found, any-done, listed}
use Rattle.facets.specs.Facets.{full, crowded}
use Rattle.facets.proofs.Tests.{any-facets}
use Rattle.facets.proofs.Pairing.{no_facet}
use Rattle.facets.proofs.is_crowded.Goals as goal

pub returns-then-is_full : goal.returns-then-is_full
unfolding crowded
returns-then-is_full c = any_found c.loop-f.invariant (omega arith) (sym c.is_full.ensures ∙ c.if-is_full.true) ∙ ap (any _) (listed no_facet c.facets_of-facets.result) ∙ rw c.facets_of-facets.ensures (any-facets (λ _. full c.args.ix.now.labels.now) c.args.ix.now.labels.now c.args.e)

pub returns : goal.returns
unfolding crowded
returns c = any-done c.loop-f.invariant (omega arith) ∙ ap (any _) (listed no_facet c.facets_of-facets.result) ∙ rw c.facets_of-facets.ensures (any-facets (λ _. full c.args.ix.now.labels.now) c.args.ix.now.labels.now c.args.e)

-- `facets::is_folded` meets its contract. Assumes nothing.
use mathlib.Core.Path.{sym, ◌∙◌, ap}
use native.Mathlib.Omega.{arith}
use Rattle.base.specs.Lists.{any}
use Rattle.base.proofs.Loop.{any_found, any-done, listed}
use Rattle.facets.specs.Facets.{clashing, folded}
use Rattle.facets.proofs.Tests.{any-facets}
use Rattle.facets.proofs.Pairing.{no_facet}
use Rattle.facets.proofs.is_folded.Goals as goal

pub returns-then-is_clashing : goal.returns-then-is_clashing
unfolding folded
returns-then-is_clashing c = any_found c.loop-f.invariant (omega arith) (sym c.is_clashing.ensures ∙ c.if-is_clashing.true) ∙ ap (any _) (listed no_facet c.facets_of-facets.result) ∙ rw c.facets_of-facets.ensures (any-facets (clashing c.args.coords.now c.args.ix.now.labels.now) c.args.ix.now.labels.now c.args.e)

pub returns : goal.returns
unfolding folded
returns c = any-done c.loop-f.invariant (omega arith) ∙ ap (any _) (listed no_facet c.facets_of-facets.result) ∙ rw c.facets_of-facets.ensures (any-facets (clashing c.args.coords.now c.args.ix.now.labels.now) c.args.ix.now.labels.now c.args.e)

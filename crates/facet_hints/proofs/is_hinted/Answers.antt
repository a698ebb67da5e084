-- `facet_hints::is_hinted` meets its contract. Assumes nothing.
use Rattle.facet_hints.specs.between.Hints.{hinted}
use Rattle.facet_hints.proofs.is_hinted.Goals as goal

pub returns : goal.returns
unfolding hinted
returns c = rw c.hint_place-at.ensures.0

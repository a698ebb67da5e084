-- `facet_hints::triangle_hinted` meets its contract. Assumes nothing.
use mathlib.Core.Path.{◌∙◌}
use Rattle.facet_hints.proofs.triangle_hinted.Goals as goal

pub returns : goal.returns
returns c = c.is_hinted.ensures ∙ rw c.corners_at-f.ensures

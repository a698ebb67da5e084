-- `facet_hints::quad_hinted` meets its contract. Assumes nothing.
use mathlib.Core.Path.{◌∙◌}
use Rattle.cells.specs.Cells.{one_diagonal, other_diagonal}
use Rattle.facet_hints.proofs.quad_hinted.Goals as goal

pub returns : goal.returns
unfolding one_diagonal other_diagonal
returns c = c.split_hinted.ensures ∙ rw c.corners_at-q.ensures

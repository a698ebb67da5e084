-- `cells::split` meets its contract. Assumes nothing.
use mathlib.Core.Path.{sym, ◌∙◌}
use Rattle.cells.specs.Cells.{one_diagonal, other_diagonal}
use Rattle.cells.proofs.split.Goals as goal

pub returns-then-all_facets : goal.returns-then-all_facets
unfolding one_diagonal other_diagonal
returns-then-all_facets c = c.if-all_facets.true ∙ sym (rw (rw c.corners_at-q.ensures at (sym c.all_facets.ensures ∙ c.if-all_facets.true)))

pub returns-else-all_facets : goal.returns-else-all_facets
unfolding one_diagonal other_diagonal
returns-else-all_facets c = let q = c.corners_at-q.ensures in (rw q at c.all_facets-else-all_facets.ensures) ∙ sym (rw (rw q at (sym c.all_facets.ensures ∙ c.if-all_facets.false)))

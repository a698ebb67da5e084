-- `pyramid_left::is_at` meets its contract. Assumes nothing.
use Rattle.tets_around.proofs.Around.{row-within}
use Rattle.pyramid_left.proofs.is_at.Goals as goal

pub is_in_row-requires : goal.is_in_row-requires
is_in_row-requires c = (c.requires, row-within _ _ c.around.ensures)

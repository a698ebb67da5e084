-- `least::rises_at` meets its contract. Assumes nothing.
use Rattle.least.specs.Least.{first_is_less}
use Rattle.least.proofs.rises_at.Goals as goal

pub returns : goal.returns
unfolding first_is_less
returns c = rw (c.corner.ensures, c.corner-2.ensures)

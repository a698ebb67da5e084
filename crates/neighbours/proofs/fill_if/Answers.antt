-- `fill_if` meets its contract. Assumes nothing.
use Rattle.matrix.proofs.Joining.{zeros-empty}
use Rattle.neighbours.proofs.fill_if.Goals as goal

pub fill_by-requires-clause-n_bound : goal.fill_by-requires-clause-n_bound
fill_by-requires-clause-n_bound c = (c.requires.0, (c.requires.1, zeros-empty))

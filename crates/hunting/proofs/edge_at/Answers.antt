-- `hunting::edge_at` meets its contract. Assumes nothing.
use Rattle.hunting.proofs.edge_at.Goals as goal

pub returns : goal.returns
returns c = rw (c.floor_of.ensures, c.look_of-3.ensures.0, c.look_of-2.ensures.0, c.look_of.ensures.0)

-- `aims::aim_at` meets its contract. Assumes nothing.
use Rattle.aims.proofs.Aiming.{aimed_of}
use Rattle.aims.proofs.aim_at.Goals as goal

pub returns : goal.returns
returns c = aimed_of c.args.place.row c.aim_from_links.result (rw c.wide.ensures.0 at c.sole-q.ensures) c.aim_from_links.ensures

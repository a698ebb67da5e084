-- `filling::crowd_at` meets its contract. Assumes nothing.
use Rattle.filling.proofs.Nearby.{aside_quad}
use Rattle.filling.proofs.crowd_at.Goals as goal

pub returns : goal.returns
returns c = rw c.corners_at-q.ensures (aside_quad c.args.ix.now.labels.now c.args.quads.now c.args.c.now c.args.i c.requires)

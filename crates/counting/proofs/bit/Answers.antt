-- `counting::bit` meets its contract. Assumes nothing.
use Rattle.counting.proofs.Sides.{mark_of}
use Rattle.counting.proofs.bit.Goals as goal

pub returns : goal.returns
returns c = mark_of c.args.labels.now c.args.c.now c.args.e.0 c.args.j _ c.corner-v.ensures

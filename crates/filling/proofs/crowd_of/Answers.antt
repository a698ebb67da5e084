-- `filling::crowd_of` meets its contract. Assumes nothing.
use Rattle.filling.proofs.Nearby.{aside_none}
use Rattle.filling.proofs.crowd_of.Goals as goal

pub loop-i-init : goal.loop-i-init
loop-i-init c = let a = c.args in aside_none a.ix.now.labels.now a.quads.now a.c.now a.ix.now.indexed.labelled 65535

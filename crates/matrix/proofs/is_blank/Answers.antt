-- `matrix::is_blank` meets its contract. Assumes nothing.
use Rattle.matrix.proofs.Joining.{blank_more}
use Rattle.matrix.proofs.is_blank.Goals as goal

pub loop-i-preserved : goal.loop-i-preserved
loop-i-preserved c = let a = c.args in let l = c.loop-i in blank_more a.m.now c.from-k.result a.v l.i l.x l.invariant

-- `matrix::join_all` meets its contract. Assumes nothing.
use Rattle.matrix.proofs.Joining.{adds_none, adds_as, adds_tet, near_none}
use Rattle.matrix.proofs.join_all.Goals as goal

pub loop-i-init : goal.loop-i-init
loop-i-init c = adds_as (adds_none _) (near_none _)

pub loop-i-preserved : goal.loop-i-preserved
loop-i-preserved c = let a = c.args in let l = c.loop-i in adds_tet a.labels.now l.i c.label-a.ensures c.label-b.ensures c.label-c.ensures c.label-d.ensures l.invariant c.join_tet.ensures

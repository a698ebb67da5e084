use Rattle.matrix.proofs.Joining.{adds_then, adds_as, row_of_joins}
use Rattle.matrix.proofs.join_row.Goals as goal

pub returns : goal.returns
returns c = let a = c.args in adds_as (adds_then (adds_then (adds_then c.join.ensures c.join-2.ensures) c.join-3.ensures) c.join-4.ensures) (row_of_joins a.u.0 a.a.0 a.b.0 a.c.0 a.d.0)

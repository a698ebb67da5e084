use Rattle.matrix.proofs.Joining.{adds_then, adds_as, tet_of_rows}
use Rattle.matrix.proofs.join_tet.Goals as goal

pub returns : goal.returns
returns c = let a = c.args in adds_as (adds_then (adds_then (adds_then c.join_row.ensures c.join_row-2.ensures) c.join_row-3.ensures) c.join_row-4.ensures) (tet_of_rows a.a.0 a.b.0 a.c.0 a.d.0)

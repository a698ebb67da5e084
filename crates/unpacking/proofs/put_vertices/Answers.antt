-- `unpacking::put_vertices` meets its contract. The loop's invariant: the rows passed are laid from `from` on.
-- Assumes nothing.
use native.Mathlib.Omega.{arith}
use Rattle.writing_lists.specs.Printed.{line_of, vertex_row}
use Rattle.unpacking.proofs.Rows.{no_rows, row_more, rows-most, vertex-short}
use Rattle.unpacking.proofs.put_vertices.Goals as goal

pub loop-v-init : goal.loop-v-init
loop-v-init c = let a = c.args in no_rows _ a.from a.out.now (omega arith)

pub put_vertex-at-requires : goal.put_vertex-at-requires
put_vertex-at-requires c = let d = c.loop-v.invariant in let m = rows-most (λ v. line_of (vertex_row c.args.coordinates.now v)) _ (vertex-short c.args.coordinates.now c.requires.close) c.loop-v.v in
    omega (arith, m, d.next, d.text.same)

pub loop-v-preserved : goal.loop-v-preserved
loop-v-preserved c = let p = c.put_vertex-at.ensures in row_more _ c.loop-v.invariant p.next p.text

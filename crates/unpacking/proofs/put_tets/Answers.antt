-- `unpacking::put_tets` meets its contract. The loop's invariant: the rows passed are laid from `from` on.
-- Assumes nothing.
use native.Mathlib.Omega.{arith}
use Rattle.writing_lists.specs.Printed.{line_of, tet_row}
use Rattle.unpacking.proofs.Rows.{no_rows, row_more, rows-most, tet-short}
use Rattle.unpacking.proofs.put_tets.Goals as goal

pub loop-j-init : goal.loop-j-init
loop-j-init c = let a = c.args in no_rows _ a.from a.out.now (omega arith)

pub put_tet-at-requires : goal.put_tet-at-requires
put_tet-at-requires c = let ls = c.args.labels.now in let ps = c.args.parts.now in let d = c.loop-j.invariant in let m = rows-most (λ j. line_of (tet_row ls ps j)) _ (tet-short ls ps c.requires.three_digits (λ i. omega (arith, c.type_inv.parts i))) c.loop-j.j in
    omega (arith, m, d.next, d.text.same)

pub loop-j-preserved : goal.loop-j-preserved
loop-j-preserved c = let p = c.put_tet-at.ensures in row_more _ c.loop-j.invariant p.next p.text

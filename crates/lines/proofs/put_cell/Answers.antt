-- The tetrahedra are laid behind the corners, and the line end behind both.
use Rattle.std.proofs.Common.{refl, arith}
use Rattle.lines.specs.Text.{cell_line}
use Rattle.lines.proofs.Numbers.{behind, corners-length, tets-length}
use Rattle.lines.proofs.put_cell.Goals as goal

pub put_tets-b-requires : goal.put_tets-b-requires
put_tets-b-requires c =
    let d = c.put_corners-a.ensures in
    (omega (arith, d.next, corners-length c.args.cell.now, d.text.same), omega arith)

pub put_text-requires : goal.put_text-requires
put_text-requires c =
    let cell = c.args.cell.now in
    let d = c.put_corners-a.ensures in
    let e = c.put_tets-b.ensures in
    omega (arith, d.next, e.next, corners-length cell, tets-length cell, d.text.same, e.text.same)

pub returns-clause-next : goal.returns-clause-next
unfolding cell_line
returns-clause-next c =
    let d = c.put_corners-a.ensures in
    let e = c.put_tets-b.ensures in
    let f = c.put_text.ensures in
    let g = behind d.next d.text e.next e.text refl in
    (behind g.0 g.1 f.next f.text refl).0

pub returns-clause-text : goal.returns-clause-text
unfolding cell_line
returns-clause-text c =
    let d = c.put_corners-a.ensures in
    let e = c.put_tets-b.ensures in
    let f = c.put_text.ensures in
    let g = behind d.next d.text e.next e.text refl in
    (behind g.0 g.1 f.next f.text refl).1

-- `verdict::is_cell` meets its contract. Assumes nothing.
use mathlib.Core.Path.{refl, subst}
use lib.ListN.{take, length-take}
use Rattle.space.specs.Arrays.{mesh_of}
use Rattle.templates.specs.Tables.{template_of}
use Rattle.cells.specs.Cells.{is_cell}
use Rattle.verdict.specs.between.Judged.{Tells}
use Rattle.verdict.proofs.Solid.{tells-cell}
use Rattle.verdict.proofs.OfKind.{of-kind}
use native.Mathlib.Omega.{arith}
use Rattle.verdict.proofs.is_cell.Goals as goal

pub slice_bounds-is_solid-end : goal.slice_bounds-is_solid-end
slice_bounds-is_solid-end c = simp length-take (omega arith)

pub returns : goal.returns
returns c = let a = c.args in let t = template_of a.kind in
    let w = c.tables_of-tables.ensures in
    subst
    (λ k. Tells is_cell (mesh_of a.mesh.now.coords.now a.mesh.now.index.labels.now a.mesh.now.parts.now) t (take k a.tuple.now) c.is_solid.result)
    w.tables.corners
    (tells-cell (of-kind a.kind refl refl).edged (c.is_solid.ensures t w.tables))

-- `verdict::judge` meets its contract. Assumes nothing.
use mathlib.Core.Path.{◌∙◌, ap}
use lib.ListN.{take, length-take}
use Rattle.space.specs.Arrays.{mesh_of}
use Rattle.templates.specs.Tables.{template_of}
use Rattle.cells.specs.Cells.{first_failing}
use native.Mathlib.Omega.{arith}
use Rattle.verdict.proofs.judge.Goals as goal

pub slice_bounds-judge_by-end : goal.slice_bounds-judge_by-end
slice_bounds-judge_by-end c = simp length-take (omega arith)

pub returns : goal.returns
returns c = let a = c.args in let t = template_of a.kind in
    let w = c.tables_of-tables.ensures in
    c.judge_by.ensures t w.tables w.edges ∙
    ap (λ k. first_failing (mesh_of a.mesh.now.coords.now a.mesh.now.index.labels.now a.mesh.now.parts.now) t (take k a.tuple.now)) w.tables.corners

-- `failing::first_face` meets its contract. Assumes nothing.
use mathlib.Core.Path.{◌∙◌, ap₂}
use lib.ListN.{take, length-take}
use native.Mathlib.Omega.{arith}
use Rattle.templates.specs.Tables.{template_of, tuple_of}
use Rattle.reasons.specs.First.{first_fail}
use Rattle.failing.proofs.Short.{short, fits}
use Rattle.cells.specs.between.Rows.{facet_in}
use Rattle.reasons.specs.Reason.{faces_by, faces, is_there}
use Rattle.failing.proofs.first_face.Goals as goal

pub slice_bounds-face_in-end : goal.slice_bounds-face_in-end
slice_bounds-face_in-end c = simp length-take (omega arith)

pub returns : goal.returns
returns c = let a = c.args in let w = c.tables_of-tables.ensures in
    c.face_in.ensures ∙ ap₂ (λ k rows. first_fail (is_there (facet_in a.ix.now.labels.now (take k a.tuple.now))) rows) w.tables.corners (ap₂ faces_by w.tables.triangles w.tables.quads)

pub overflow_cast-result : goal.overflow_cast-result
overflow_cast-result c = let a = c.args in let h = fits (is_there (facet_in a.ix.now.labels.now (tuple_of a.kind a.tuple.now))) (faces (template_of a.kind)) (returns c) (short a.kind).faces in
    omega arith

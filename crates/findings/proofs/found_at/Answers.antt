-- `findings::found_at` meets its contract. Assumes nothing.
use mathlib.Core.Path.{sym, ap}
use Rattle.templates.specs.Tables.{template_of, tuple_of}
use Rattle.judging.specs.between.Last.{number}
use Rattle.findings.proofs.Found.{corner-found, edge-found, face_found, box-found, open-found, parts-found}
use Rattle.findings.proofs.found_at.Goals as goal

pub returns-in-Corners : goal.returns-in-Corners
returns-in-Corners c = let a = c.args in corner-found a.mesh.now.coords.now a.mesh.now.index.labels.now a.mesh.now.parts.now (template_of a.kind) (tuple_of a.kind a.tuple.now) (ap number c.in-Corners.is) (rw (sym a.mesh.now.arrays.counted) at c.first_corner.ensures)

pub returns-in-Edges : goal.returns-in-Edges
returns-in-Edges c = let a = c.args in edge-found a.mesh.now.coords.now a.mesh.now.index.labels.now a.mesh.now.parts.now (template_of a.kind) (tuple_of a.kind a.tuple.now) (ap number c.in-Edges.is) c.first_edge.ensures

pub returns-in-Faces : goal.returns-in-Faces
returns-in-Faces c = let a = c.args in face_found a.mesh.now.coords.now a.mesh.now.index.labels.now a.mesh.now.parts.now (template_of a.kind) (tuple_of a.kind a.tuple.now) (ap number c.in-Faces.is) c.first_face.ensures

pub returns-in-Boxes : goal.returns-in-Boxes
returns-in-Boxes c = let a = c.args in box-found a.mesh.now.coords.now a.mesh.now.index.labels.now a.mesh.now.parts.now (template_of a.kind) (tuple_of a.kind a.tuple.now) (ap number c.in-Boxes.is) c.first_box.ensures

pub returns-in-Filled : goal.returns-in-Filled
returns-in-Filled c = let a = c.args in open-found a.mesh.now.coords.now a.mesh.now.index.labels.now a.mesh.now.parts.now (template_of a.kind) (tuple_of a.kind a.tuple.now) (ap number c.in-Filled.is) c.open_at.ensures

pub returns-in-OnePart : goal.returns-in-OnePart
returns-in-OnePart c = let a = c.args in parts-found a.mesh.now.coords.now a.mesh.now.index.labels.now a.mesh.now.parts.now (template_of a.kind) (tuple_of a.kind a.tuple.now) (ap number c.in-OnePart.is)

-- `findings::finding` meets its contract. Assumes nothing.
use mathlib.Core.Path.{sym, ◌∙◌, ap}
use Rattle.space.specs.Arrays.{mesh_of}
use Rattle.templates.specs.Tables.{template_of, tuple_of}
use Rattle.reasons.specs.Reason.{finding_at, finding, finding_of}
use Rattle.judging.specs.between.Last.{condition_no}
use Rattle.findings.proofs.Found.{sound-distinct}
use Rattle.findings.proofs.finding.Goals as goal

pub found_cell-requires : goal.found_cell-requires
found_cell-requires c = (c.requires, sound-distinct (mesh_of c.args.mesh.now.coords.now c.args.mesh.now.index.labels.now c.args.mesh.now.parts.now) (template_of c.args.kind) (tuple_of c.args.kind c.args.tuple.now) (sym c.judge.ensures ∙ ap condition_no c.in-Ok.is))

pub returns-in-Ok : goal.returns-in-Ok
unfolding finding_of finding finding_at
returns-in-Ok c = rw (sym c.judge.ensures ∙ ap condition_no c.in-Ok.is) c.found_cell.ensures

pub returns-in-Err : goal.returns-in-Err
unfolding finding_of finding
returns-in-Err c = rw (sym c.judge.ensures ∙ ap condition_no c.in-Err.is) c.found_at.ensures

-- The cells that the loop has written are those of `Come`, and the room holds their records. Assumes nothing.
use Rattle.space.specs.Arrays.{mesh_of}
use Rattle.cells.specs.Full.{full_list}
use Rattle.portions.specs.between.Steps.{Come}
use Rattle.rule.specs.Rule.{tet_rule}
use Rattle.record.specs.Marks.{mark_of}
use Rattle.records.proofs.write_up.Given as goal

abbrev pub invariant-loop-i : goal.invariant-loop-i
invariant-loop-i l = Come tet_rule (full_list (mesh_of l.ground.mesh.coords.now l.ground.mesh.index.labels.now l.ground.mesh.parts.now)) (mark_of l.initial.k) l.initial.records (mark_of l.k) l.i l.records

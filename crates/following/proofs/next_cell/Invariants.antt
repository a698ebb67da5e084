-- The kinds that the loop has passed have no cell after the mark. Assumes nothing.
use Rattle.space.specs.Arrays.{mesh_of}
use Rattle.record.specs.Marks.{mark_of}
use Rattle.following.specs.between.Following.{NoneIn}
use Rattle.following.proofs.next_cell.Given as goal

abbrev pub invariant-loop-kind : goal.invariant-loop-kind
invariant-loop-kind l = NoneIn (mesh_of l.ground.mesh.coords.now l.ground.mesh.index.labels.now l.ground.mesh.parts.now) (mark_of l.mark) l.kind-index

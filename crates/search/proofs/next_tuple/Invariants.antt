-- `search::next_tuple` meets its contract. Assumes nothing.
use Rattle.space.specs.Arrays.{mesh_of}
use Rattle.templates.specs.Tables.{template_of}
use Rattle.portions.proofs.Search.{Open}
use Rattle.portions.proofs.Turns.{left}
use Rattle.rule.specs.between.Leaf.{is_leaf}
use Rattle.search.proofs.next_tuple.Given as goal

abbrev pub invariant-loop-t : goal.invariant-loop-t
invariant-loop-t l = Open (template_of l.kind).corners (is_leaf (mesh_of l.ground.mesh.coords.now l.ground.mesh.index.labels.now l.ground.mesh.parts.now) (template_of l.kind)) l.initial.t l.t l.d l.lo

abbrev pub decreases-loop-t : goal.decreases-loop-t
decreases-loop-t l = left l.ground.near.n l.k l.t l.d l.lo

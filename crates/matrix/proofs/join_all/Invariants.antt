-- The loop's invariant: the tetrahedra passed are joined. Assumes nothing.
use Rattle.matrix.specs.between.Matrix.{joined_by, AddsJoins}
use Rattle.matrix.proofs.join_all.Given as goal

abbrev pub invariant-loop-i : goal.invariant-loop-i
invariant-loop-i l = AddsJoins l.initial.m l.m (joined_by l.labels l.i)

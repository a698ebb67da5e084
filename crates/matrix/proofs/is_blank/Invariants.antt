-- The loop's invariant: nothing met, nothing at the vertices passed. Assumes nothing.
use mathlib.Core.Path.{◌≡◌}
use Rattle.matrix.specs.between.Matrix.{Blank}
use Rattle.matrix.proofs.is_blank.Given as goal

abbrev pub invariant-loop-i : goal.invariant-loop-i
invariant-loop-i l = l.x ≡ 0 → Blank l.m l.k l.v l.i

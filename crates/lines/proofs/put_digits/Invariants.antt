-- The digits that are still to put, and then those that stand, are the last k.
use Rattle.std.proofs.Common.{◌≡◌, ◌++◌}
use Rattle.std.proofs.Math.Seq.{slice}
use Rattle.lines.specs.Text.{last_digits}
use Rattle.lines.proofs.put_digits.Given as goal

abbrev pub invariant-loop-i : goal.invariant-loop-i
invariant-loop-i l = last_digits l.i l.rest ++ slice l.i l.k l.out ≡ last_digits l.k l.x

-- `judging::judge_many` meets its contract. Assumes nothing.
use mathlib.Core.Path.{◌≡◌}
use Prim.Native.Nat.{◌/◌}
use lib.ListN.{length}
use Rattle.cells.specs.between.Rows.{fours, owns}
use Rattle.judging.proofs.Numbers.{Gathered}
use Rattle.judging.proofs.judge_many.Given as goal

abbrev pub invariant-loop-i : goal.invariant-loop-i
invariant-loop-i l = (l.t ≡ length l.labels / 4) × Gathered (owns l.labels (fours l.quads) l.c) l.i l.list l.k

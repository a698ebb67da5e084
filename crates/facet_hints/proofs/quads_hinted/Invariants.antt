-- `facet_hints::quads_hinted` meets its contract. Assumes nothing.
use mathlib.Core.Path.{◌≡◌}
use Prim.Native.Nat.{◌/◌}
use lib.ListN.{length}
use Rattle.base.proofs.Loop.{AllUp}
use Rattle.space.specs.Arrays.{row4}
use Rattle.cells.specs.Cells.{splits}
use Rattle.facet_hints.specs.between.Hints.{hinted_at}
use Rattle.facet_hints.proofs.quads_hinted.Given as goal

abbrev pub invariant-loop-i : goal.invariant-loop-i
invariant-loop-i l = (l.k ≡ length l.rows / 4) × AllUp (splits (hinted_at l.hints l.c)) (row4 l.rows) l.k l.i

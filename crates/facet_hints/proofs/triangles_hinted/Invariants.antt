-- `facet_hints::triangles_hinted` meets its contract. Assumes nothing.
use mathlib.Core.Path.{◌≡◌}
use Prim.Native.Nat.{◌/◌}
use lib.ListN.{length}
use Rattle.base.proofs.Loop.{AllUp}
use Rattle.cells.specs.between.Rows.{row3}
use Rattle.facet_hints.specs.between.Hints.{hinted_at}
use Rattle.facet_hints.proofs.triangles_hinted.Given as goal

abbrev pub invariant-loop-i : goal.invariant-loop-i
invariant-loop-i l = (l.k ≡ length l.rows / 3) × AllUp (hinted_at l.hints l.c) (row3 l.rows) l.k l.i

-- `filling::find` meets its contract. Assumes nothing.
use mathlib.Core.Path.{◌≡◌}
use mathlib.Core.Bool.{true}
use Prim.Native.Nat.{◌/◌, ◌-◌, ◌≤◌, ◌<◌}
use lib.ListN.{length}
use Rattle.cells.specs.between.Rows.{fours, owns}
use Rattle.filling.specs.between.Next.{AllReadUpTo}
use Rattle.filling.proofs.Found.{FoundUp}
use Rattle.filling.proofs.find.Given as goal

abbrev pub invariant-loop-i : goal.invariant-loop-i
invariant-loop-i l = (l.t ≡ length l.ix.labels.now / 4) × ((l.i ≤ l.t) × ((l.i < l.t → owns l.ix.labels.now (fours l.quads) l.c l.i ≡ true) × (FoundUp (owns l.ix.labels.now (fours l.quads) l.c) l.i l.found × ((length l.places ≡ 8) × AllReadUpTo (owns l.ix.labels.now (fours l.quads) l.c) l.ix.labels.now l.c l.i l.places))))

abbrev pub decreases-loop-i : goal.decreases-loop-i
decreases-loop-i l = l.t - l.i

-- `filling::next_own` meets its contract. Assumes nothing.
use mathlib.Core.Path.{◌≡◌}
use Prim.Native.Nat.{◌/◌}
use lib.ListN.{length}
use Rattle.cells.specs.between.Rows.{fours, owns}
use Rattle.filling.specs.between.Next.{NextAround, AllReadUpTo, left_out}
use Rattle.filling.proofs.next_own.Given as goal

abbrev pub invariant-loop-k : goal.invariant-loop-k
invariant-loop-k l = (length l.places ≡ length l.initial.places) × (NextAround (owns l.ix.labels.now (fours l.quads) l.c) l.ix.labels.now l.c l.lo (length l.ix.labels.now / 4) l.k (left_out l.w) l.hi × AllReadUpTo (owns l.ix.labels.now (fours l.quads) l.c) l.ix.labels.now l.c l.lo l.places)

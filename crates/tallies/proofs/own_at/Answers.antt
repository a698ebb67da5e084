-- `tallies::own_at` meets its contract. Assumes nothing.
use lib.ListN.{length-take}
use native.Mathlib.Omega.{arith}
use Rattle.tallies.proofs.own_at.Goals as goal

pub slice_bounds-sides_at-end : goal.slice_bounds-sides_at-end
slice_bounds-sides_at-end c = simp length-take (omega arith)

-- `tallies::two_parts_of` meets its contract. Assumes nothing.
use lib.ListN.{length-take}
use native.Mathlib.Omega.{arith}
use Rattle.tallies.proofs.two_parts_of.Goals as goal

pub slice_bounds-two_parts-end : goal.slice_bounds-two_parts-end
slice_bounds-two_parts-end c = simp length-take (omega arith)

-- `decoding::read_coordinates` meets its contract: every entry is filled. Assumes nothing.
use native.Mathlib.Omega.{arith}
use Rattle.layout.specs.Layout.{coords_in}
use Rattle.decoding.proofs.Fill.{fill_done}
use Rattle.decoding.proofs.read_coordinates.Goals as goal

pub returns : goal.returns
unfolding coords_in
returns c = fill_done c.loop-k.invariant (omega arith)

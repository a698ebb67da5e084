-- `counting::is_filled` meets its contract. Assumes nothing.
use mathlib.Core.Path.{◌∙◌}
use Rattle.counting.proofs.Sides.{bits_are_small, fills_are}
use Rattle.counting.proofs.is_filled.Goals as goal

pub is_filled_by-requires : goal.is_filled_by-requires
is_filled_by-requires c = (bits_are_small c.put_bits.ensures, c.requires.1.1)

pub returns : goal.returns
returns c = c.is_filled_by.ensures ∙ fills_are c.put_bits.ensures c.args.triangles.now c.args.quads.now c.args.within.now c.requires.1.1

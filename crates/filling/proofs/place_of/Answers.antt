-- `filling::place_of` meets its contract. Assumes nothing.
use mathlib.Core.Path.{sym}
use lib.ListN.{get_or-eq_default}
use native.Mathlib.Omega.{arith}
use Rattle.filling.proofs.place_of.Goals as goal

pub returns : goal.returns
returns c = sym (get_or-eq_default c.args.places.now 0 (omega arith))

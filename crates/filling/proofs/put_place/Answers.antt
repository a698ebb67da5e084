-- `filling::put_place` meets its contract. Assumes nothing.
use mathlib.Core.Path.{sym}
use lib.Seq.{set_out}
use native.Mathlib.Omega.{arith}
use Rattle.filling.proofs.put_place.Goals as goal

pub returns-else-k-places : goal.returns-else-k-places
returns-else-k-places c = sym (set_out c.args.places.now c.args.k c.args.at (omega arith))

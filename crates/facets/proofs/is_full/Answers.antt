-- `facets::is_full` meets its contract. Assumes nothing.
use mathlib.Core.Path.{sym, ap}
use lib.Dec.{leb}
use Rattle.std.specs.Prelude.{is_some}
use Rattle.facets.specs.Facets.{full}
use Rattle.facets.proofs.Pairing.{no_third}
use Rattle.facets.proofs.is_full.Goals as goal

pub returns-in-Some : goal.returns-in-Some
returns-in-Some c = sym (no_third c.args.f.u.0 c.pair_of.ensures (ap is_some c.in-Some.is))

pub returns-in-None : goal.returns-in-None
unfolding full
returns-in-None c = ap (leb 3) c.sharing.ensures

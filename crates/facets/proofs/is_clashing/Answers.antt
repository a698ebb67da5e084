-- `facets::is_clashing` meets its contract. Assumes nothing.
use mathlib.Core.Path.{refl}
use Rattle.facets.proofs.Pairing.{tries_two}
use Rattle.facets.proofs.is_clashing.Goals as goal

pub returns-else-clashes_named : goal.returns-else-clashes_named
returns-else-clashes_named c = tries_two c.in-Some.ensures refl c.clashes_named.ensures c.if-clashes_named.false c.clashes_named-else-clashes_named.ensures

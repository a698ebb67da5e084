-- `facet_pairs::pair_place` meets its contract. Assumes nothing.
use mathlib.Core.Path.{ap}
use Prim.Native.Nat.{◌%◌}
use native.Mathlib.Omega.{arith}
use Rattle.facet_pairs.specs.between.Pairs.{pair_place}
use Rattle.facet_pairs.proofs.pair_place.Goals as goal

pub returns : goal.returns
unfolding pair_place
returns c = (ap (λ x. x % 32768) c.hash3.ensures, omega arith)

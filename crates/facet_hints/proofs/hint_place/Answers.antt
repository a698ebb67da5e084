-- `facet_hints::hint_place` meets its contract. Assumes nothing.
use mathlib.Core.Path.{ap}
use Prim.Native.Nat.{◌%◌}
use native.Mathlib.Omega.{arith}
use Rattle.facet_hints.specs.between.Hints.{hint_places, hint_place}
use Rattle.facet_hints.proofs.hint_place.Goals as goal

pub returns : goal.returns
unfolding hint_place
returns c = (ap (λ n. n % hint_places) c.hash3.ensures, omega arith)

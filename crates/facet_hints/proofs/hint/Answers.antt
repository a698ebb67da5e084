-- `facet_hints::hint` meets its contract. Assumes nothing.
use native.Mathlib.Omega.{arith}
use Rattle.facet_hints.proofs.Hinting.{hint-one}
use Rattle.facet_hints.proofs.hint.Goals as goal

pub returns : goal.returns
returns c = let a = c.args in hint-one a.hints.now a.u.0 a.v.0 a.w.0 c.hint_place-at.result c.hint_place-at.ensures.0 (omega (arith, c.hint_place-at.ensures.1, c.told-hints))

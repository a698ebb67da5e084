-- `facet_pairs::put_at_facet` meets its contract. Assumes nothing.
use mathlib.Core.Path.{refl}
use mathlib.Core.Logic.{inl, inr}
use native.Mathlib.Omega.{arith}
use Rattle.facet_pairs.proofs.Telling.{put_first, put_second}
use Rattle.facet_pairs.proofs.put_at_facet.Goals as goal

pub returns-then-pairs-at-eq0 : goal.returns-then-pairs-at-eq0
returns-then-pairs-at-eq0 c = put_first c.args.e.0 c.args.u.0 c.args.v.0 c.args.w.0 c.pair_place-at.result c.pair_place-at.ensures.0 (omega (arith, c.pair_place-at.ensures.1, c.told-pairs)) c.if-pairs-at-eq0.true

pub returns-then-pairs-at-eq0-2 : goal.returns-then-pairs-at-eq0-2
returns-then-pairs-at-eq0-2 c = put_second c.args.e.0 c.args.u.0 c.args.v.0 c.args.w.0 c.pair_place-at.result _ c.pair_place-at.ensures.0 (omega (arith, c.pair_place-at.ensures.1, c.told-pairs)) (inl (c.if-pairs-at-eq0-2.true, refl))

pub returns-else-pairs-at-eq0-2 : goal.returns-else-pairs-at-eq0-2
returns-else-pairs-at-eq0-2 c = put_second c.args.e.0 c.args.u.0 c.args.v.0 c.args.w.0 c.pair_place-at.result _ c.pair_place-at.ensures.0 (omega (arith, c.pair_place-at.ensures.1, c.told-pairs)) (inr refl)

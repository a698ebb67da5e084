-- `facet_hints::hint_facets` meets its contract. Assumes nothing.
use mathlib.Core.Path.{◌≡◌, subst}
use Prim.Native.Nat.{◌/◌}
use lib.ListN.{length}
use native.Mathlib.Omega.{arith}
use Rattle.base.proofs.Stores.{stores_next}
use Rattle.cells.proofs.Row.{row_cut}
use Rattle.facet_hints.specs.between.Hints.{AddsHints, OfFour, HintsAsked}
use Rattle.facet_hints.proofs.Hinting.{all-hinted}
use Rattle.facet_hints.proofs.hint_facets.Goals as goal

pub loop-i-preserved : goal.loop-i-preserved
loop-i-preserved c = let l = c.loop-i in let ls = c.args.labels.now in
    (omega arith, stores_next (HintsAsked ls) l.i l.invariant.1 (subst (λ vs. AddsHints l.hints c.hint_tet.new.hints (OfFour vs)) (row_cut 4 l.i ls (omega arith)) c.hint_tet.ensures))

pub returns : goal.returns
returns c = let l = c.loop-i in let e : l.i ≡ length c.args.labels.now / 4 = omega (arith, l.invariant.0) in
    all-hinted c.told-hints (rw e at l.invariant.1)

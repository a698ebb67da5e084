-- `facet_pairs::put_all` meets its contract. Assumes nothing.
use mathlib.Core.Path.{◌≡◌}
use Prim.Native.Nat.{◌/◌}
use native.Mathlib.Omega.{arith}
use lib.ListN.{length}
use Rattle.base.proofs.Stores.{stores_none, stores_next}
use Rattle.facet_pairs.specs.between.Pairs.{PairsAsked}
use Rattle.facet_pairs.proofs.Telling.{all_told}
use Rattle.facet_pairs.proofs.put_all.Goals as goal

pub loop-i-init : goal.loop-i-init
loop-i-init c = stores_none _ _

pub loop-i-preserved : goal.loop-i-preserved
loop-i-preserved c = stores_next (PairsAsked c.args.labels.now) c.loop-i.i c.loop-i.invariant c.put_tet.ensures

pub returns : goal.returns
returns c = let l = c.loop-i in let e : l.i ≡ length c.args.labels.now / 4 = omega arith in all_told c.told-pairs (rw e at l.invariant)

-- `counting::sides_of` meets its contract. Assumes nothing.
use Prim.Native.Nat.{◌-◌}
use native.Mathlib.Omega.{arith}
use Rattle.base.proofs.Loop.{count-start}
use Rattle.counting.proofs.Sides.{both_small, product, count-bit, count-all}
use Rattle.counting.proofs.sides_of.Goals as goal

pub loop-k-preserved : goal.loop-k-preserved
loop-k-preserved c = let k = c.loop-k.k in let m = c.requires.0.small in let g = m k c.args.x (omega arith) (omega arith) in
    let h = m k c.args.y (omega arith) (omega arith) in
    let l = m k c.args.z (omega arith) (omega arith) in
    (omega (arith, both_small _ _ (both_small _ _ g h) l), count-bit c.loop-k.invariant.1 (omega arith) _ (product _ _ _ g h l))

pub returns : goal.returns
returns c = count-all _ _ c.loop-k.invariant.1 (omega arith)

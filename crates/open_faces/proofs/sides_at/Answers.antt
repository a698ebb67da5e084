-- `open_faces::sides_at` meets its contract. Assumes nothing.
use mathlib.Core.Path.{refl}
use mathlib.Core.List.{[], ◌∷◌}
use Prim.Native.Nat.{◌-◌}
use native.Mathlib.Omega.{arith}
use Rattle.base.proofs.Loop.{count-start}
use Rattle.open_faces.proofs.Sides.{count_add, count-own}
use Rattle.open_faces.proofs.sides_at.Goals as goal

pub loop-i-init : goal.loop-i-init
loop-i-init c = (refl, (omega arith, count-start))

pub loop-i-preserved : goal.loop-i-preserved
loop-i-preserved c = (refl, (omega arith, count_add c.loop-i.invariant.1.1 (omega arith) c.side-found.ensures.0))

pub returns : goal.returns
returns c = let s = c.args in count-own s.labels.now (s.u.0 ∷ s.v.0 ∷ s.w.0 ∷ []) s.quads.now s.c.now c.loop-i.invariant.1.1 (omega arith)

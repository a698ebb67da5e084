-- `space::from_to` meets its contract, field by field. Assumes nothing.
use mathlib.Core.Path.{◌≡◌}
use lib.IntN.{ℤ, ◌-ℤ◌}
use mir.Syntax.{w64}
use mir.Val.{to_z, of_z}
use Rattle.base.specs.between.Size.{Small}
use Rattle.base.proofs.Signed.{of-small, sub_holds}
use Rattle.space.proofs.from_to.Goals as goal

-- the difference of two coordinates in bounds
across : {a b : ℤ} → Small 50000 a → Small 50000 b → to_z w64 (of_z w64 (to_z w64 (of_z w64 b) -ℤ to_z w64 (of_z w64 a))) ≡ b -ℤ a
across p q = (sub_holds {w = w64} (of-small q tt) (of-small p tt) tt).says

pub returns : goal.returns
returns c = let p = c.requires.0 in let q = c.requires.1 in rw (across p.x q.x, across p.y q.y, across p.z q.z)

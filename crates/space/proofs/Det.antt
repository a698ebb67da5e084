-- The determinant by cross and dot product, and under an exchange of its rows.
-- Assumes nothing.
use mathlib.Core.Path.{◌≡◌}
use lib.IntN.{ℤ, neg_ℤ, neg_ℤ-neg_ℤ, neg_ℤ-+ℤ, +ℤ_assoc, +ℤ_comm, *ℤ_comm, ◌+ℤ◌, ◌-ℤ◌, ◌*ℤ◌}
use Rattle.base.proofs.Ring.{left_comm, mul-add, mul-neg, mul_assoc, mul_left_comm, add-mul, neg-mul}
use Rattle.space.specs.declared.Point.{Point}
use Rattle.space.specs.Box.{det}

ruleset ring = (mul-add, add-mul, mul-neg, neg-mul, neg_ℤ-+ℤ, neg_ℤ-neg_ℤ, mul_assoc, mul_left_comm, *ℤ_comm, +ℤ_assoc, left_comm, +ℤ_comm)

-- a × b
abbrev pub cross : Point → Point → Point
cross a b =
    record {
      x = a.y *ℤ b.z -ℤ a.z *ℤ b.y;
      y = a.z *ℤ b.x -ℤ a.x *ℤ b.z;
      z = a.x *ℤ b.y -ℤ a.y *ℤ b.x;
    }

-- a · b
abbrev pub dot : Point → Point → ℤ
dot a b = a.x *ℤ b.x +ℤ a.y *ℤ b.y +ℤ a.z *ℤ b.z

module _ (a b c : Point) where
  -- (a × b) · c is the determinant of the rows
  pub cross_dot : dot (cross a b) c ≡ det a b c
  cross_dot = simp ring

  -- the rows, one place on
  pub det-on : det a b c ≡ det b c a
  det-on = simp ring

  -- the first two rows exchanged
  pub det_swap : det b a c ≡ neg_ℤ (det a b c)
  det_swap = simp ring

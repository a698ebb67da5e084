-- The product of three odd numbers stays within 64 bits. Assumes nothing.
use Prim.Native.Nat.{ℕ, ◌*◌, ◌≤◌, ◌^◌, ◌<◌}
use native.Mathlib.Nat.{mul-le-mul}
use native.Mathlib.Omega.{arith}
use Rattle.space.proofs.hash3.Goals as goal

cube_fits : {x y z : ℕ} → x ≤ 132083 → y ≤ 132083 → z ≤ 132083 → x * y * z < 2 ^ 64
cube_fits {x} {y} {z} p q r = let h : x * y * z ≤ 132083 * 132083 * 132083 = mul-le-mul (mul-le-mul p q) r in omega (arith, h)

pub overflow_mul-result-2 : goal.overflow_mul-result-2
overflow_mul-result-2 c = let h = cube_fits {x = c.odd.result} {y = c.odd-2.result} {z = c.odd-3.result} (omega arith) (omega arith) (omega arith) in omega arith

-- The number of three vertices does not depend on their order.
-- Assumes nothing.
use Prim.Native.Nat.{ℕ, ◌*◌, ◌/◌}
use mathlib.Core.Path.{◌≡◌, sym, ◌∙◌, ap}
use native.Mathlib.Nat.{mul_comm, mul_assoc}
use Rattle.space.specs.between.Hash.{odd, hash3}

pub hash3-first : (u v w : ℕ) → hash3 u v w ≡ hash3 v u w
unfolding hash3
hash3-first u v w = ap (λ x. x * odd w / 2) (mul_comm (odd u) (odd v))

pub hash3-last : (u v w : ℕ) → hash3 u v w ≡ hash3 u w v
unfolding hash3
hash3-last u v w = ap (λ x. x / 2) (mul_assoc (odd u) (odd v) (odd w) ∙ ap (λ x. odd u * x) (mul_comm (odd v) (odd w)) ∙ sym (mul_assoc (odd u) (odd w) (odd v)))

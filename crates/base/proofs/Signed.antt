-- The size of sums, differences and products of integers, and what a signed local holds after an operation whose result
-- is small.
-- A signed local holds bits, and the machine reads them back:
-- `Holds w b n z` says that the bits b say z, which is at most n in size.
-- `add_holds`, `sub_holds` and `mul_holds` carry that through an operation, and `add-fits`,
-- `sub-fits` and `mul-fits` are what the operation asks.
-- Assumes nothing.
use mathlib.Core.Path.{◌≡◌, refl, sym, ◌∙◌}
use mathlib.Core.Bool.{Bool, true, false, cond, false≢true}
use Prim.Native.Nat.{ℕ, zero, suc, ◌+◌, ◌*◌, ◌^◌, ◌≤◌, ◌<◌}
use native.Mathlib.Nat.{mul-le-mul, le_trans}
use native.Mathlib.Omega.{arith}
use lib.Dec.{T, leb, ltb, ltb→lt}
use borrow.Author.Tests.{lt-ltb, ltb-true, ltb-false, le-leb, lt-leb}
use lib.IntN.{ℤ, pos, negsuc, neg_ℤ, nat_abs, sub_ℕ, ◌+ℤ◌, ◌-ℤ◌, ◌*ℤ◌}
use lib.Signed.{mag, lt_z, le_z}
use mir.Syntax.{Width}
use mir.Val.{SFits, to_z, of_z, hbits}
use mir.ValLaws.{to_z-of_z}
use Rattle.base.specs.between.Size.{Small}

-- ---- sizes

pub nat_abs-neg : (a : ℤ) → nat_abs (neg_ℤ a) ≡ nat_abs a
nat_abs-neg (pos zero) = refl
nat_abs-neg (pos (suc n)) = refl
nat_abs-neg (negsuc n) = refl

nat_abs_pick : (b : Bool) (m n k : ℕ) → m ≤ k → n ≤ k → nat_abs (cond b (negsuc m) (pos n)) ≤ suc k
nat_abs_pick true m n k p q = omega arith
nat_abs_pick false m n k p q = omega arith

nat_abs_subℕ : (a b : ℕ) → nat_abs (sub_ℕ a (suc b)) ≤ a + suc b
nat_abs_subℕ a b = le_trans (nat_abs_pick (ltb a (suc b)) _ _ (a + b) (omega arith) (omega arith)) (omega arith)

pub nat_abs-add : (a b : ℤ) → nat_abs (a +ℤ b) ≤ nat_abs a + nat_abs b
nat_abs-add (pos a) (pos b) = omega arith
nat_abs-add (pos a) (negsuc b) = nat_abs_subℕ a b
nat_abs-add (negsuc a) (pos b) = le_trans (nat_abs_subℕ b a) (omega arith)
nat_abs-add (negsuc a) (negsuc b) = omega arith

pub nat_abs-sub : (a b : ℤ) → nat_abs (a -ℤ b) ≤ nat_abs a + nat_abs b
nat_abs-sub a b = omega (arith, nat_abs-add a (neg_ℤ b), nat_abs-neg b)

pub nat_abs_mul : (a b : ℤ) → nat_abs (a *ℤ b) ≡ nat_abs a * nat_abs b
nat_abs_mul (pos a) (pos b) = refl
nat_abs_mul (pos a) (negsuc b) = nat_abs-neg (pos (a * suc b))
nat_abs_mul (negsuc a) (pos b) = nat_abs-neg (pos (suc a * b))
nat_abs_mul (negsuc a) (negsuc b) = refl

module _ {a b : ℤ} {m n : ℕ} (p : Small m a) (q : Small n b) where
  pub add_small : Small (m + n) (a +ℤ b)
  add_small = record { small = omega (arith, nat_abs-add a b) }

  pub sub_small : Small (m + n) (a -ℤ b)
  sub_small = record { small = omega (arith, nat_abs-sub a b) }

  pub mul_small : Small (m * n) (a *ℤ b)
  mul_small = record { small = rw nat_abs_mul (mul-le-mul p.small q.small) }

-- ---- what a signed width holds

mag_le : (z : ℤ) → mag z ≤ nat_abs z
mag_le (pos n) = omega arith
mag_le (negsuc n) = omega arith

-- at a literal n the last argument is `tt`
pub small-fits : {w : Width} {n : ℕ} {z : ℤ} → Small n z → T (ltb n (2 ^ hbits w)) → SFits w z
small-fits {w} {n} {z} p t = record { sfits = omega (arith, mag_le z, ltb→lt n (2 ^ hbits w) t) }

pub to_z_pos : (w : Width) (n : ℕ) → n < 2 ^ hbits w → to_z w n ≡ pos n
to_z_pos w n p = rw (lt-ltb n (2 ^ hbits w) p)

-- a small number comes back from its bits
pub back : (w : Width) {n : ℕ} {z : ℤ} → Small n z → T (ltb n (2 ^ hbits w)) → to_z w (of_z w z) ≡ z
back w {n} {z} p t = to_z-of_z w z (small-fits p t)

pub back-small : (w : Width) {n : ℕ} {z : ℤ} → Small n z → T (ltb n (2 ^ hbits w)) → Small n (to_z w (of_z w z))
back-small w {n} {z} p t = rw (back w p t) p

-- ---- operations on signed locals

pub record Holds (w : Width) (b n : ℕ) (z : ℤ) : Type 0 where
  pub says : to_z w b ≡ z
  pub size : Small n z

pub of_number : (w : Width) (n m : ℕ) → n ≤ m → T (ltb m (2 ^ hbits w)) → Holds w n m (pos n)
of_number w n m p t = record { says = to_z_pos w n (omega (arith, ltb→lt m (2 ^ hbits w) t)); size = record { small = p } }

pub of-small : {w : Width} {n : ℕ} {z : ℤ} → Small n z → T (ltb n (2 ^ hbits w)) → Holds w (of_z w z) n z
of-small {w} p t = record { says = back w p t; size = p }

module _ {w : Width} {x y m n : ℕ} {a b : ℤ} (p : Holds w x m a) (q : Holds w y n b) where
  pub add-fits : T (ltb (m + n) (2 ^ hbits w)) → SFits w (to_z w x +ℤ to_z w y)
  add-fits t = rw (p.says, q.says) (small-fits (add_small p.size q.size) t)

  pub sub-fits : T (ltb (m + n) (2 ^ hbits w)) → SFits w (to_z w x -ℤ to_z w y)
  sub-fits t = rw (p.says, q.says) (small-fits (sub_small p.size q.size) t)

  pub mul-fits : T (ltb (m * n) (2 ^ hbits w)) → SFits w (to_z w x *ℤ to_z w y)
  mul-fits t = rw (p.says, q.says) (small-fits (mul_small p.size q.size) t)

  pub add_holds : T (ltb (m + n) (2 ^ hbits w)) → Holds w (of_z w (to_z w x +ℤ to_z w y)) (m + n) (a +ℤ b)
  add_holds t = record { says = to_z-of_z w _ (add-fits t) ∙ rw (p.says, q.says); size = add_small p.size q.size }

  pub sub_holds : T (ltb (m + n) (2 ^ hbits w)) → Holds w (of_z w (to_z w x -ℤ to_z w y)) (m + n) (a -ℤ b)
  sub_holds t = record { says = to_z-of_z w _ (sub-fits t) ∙ rw (p.says, q.says); size = sub_small p.size q.size }

  pub mul_holds : T (ltb (m * n) (2 ^ hbits w)) → Holds w (of_z w (to_z w x *ℤ to_z w y)) (m * n) (a *ℤ b)
  mul_holds t = record { says = to_z-of_z w _ (mul-fits t) ∙ rw (p.says, q.says); size = mul_small p.size q.size }

-- ---- the two tests of a range that is the same to both sides: -(k + 1) to k + 1

pub below_range : (z : ℤ) (k : ℕ) → lt_z z (negsuc k) ≡ true → leb (nat_abs z) (suc k) ≡ false
below_range (pos n) k e = absurd (false≢true e)
below_range (negsuc n) k e = lt-leb (suc n) (suc k) (omega (arith, ltb-true k n e))

pub in-range : (z : ℤ) (k : ℕ) → lt_z z (negsuc k) ≡ false → le_z z (pos (suc k)) ≡ leb (nat_abs z) (suc k)
in-range (pos n) k e = refl
in-range (negsuc n) k e = sym (le-leb (suc n) (suc k) (omega (arith, ltb-false k n e)))

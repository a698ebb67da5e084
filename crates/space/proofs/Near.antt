-- What the bound on coordinates tells of points, of their differences and of their box. Assumes nothing.
use mathlib.Core.Path.{◌≡◌, refl, sym}
use mathlib.Core.Bool.{Bool, true, ◌&&◌}
use Prim.Native.Nat.{zero, suc}
use lib.Signed.{lt_z}
use native.Mathlib.Omega.{arith}
use lib.IntN.{ℤ, pos, negsuc}
use borrow.Author.Tests.{leb-true, lt-ltb}
use mir.Syntax.{w64}
use mir.Val.{SFits, to_z, of_z}
use mir.ValLaws.{to_z-of_z}
use Rattle.space.specs.declared.Point.{Point}
use Rattle.base.specs.between.Size.{Small}
use Rattle.base.proofs.Bools.{and_left, and_right}
use Rattle.space.specs.Box.{near, near_point, from_to, det, box, is_above0}
use Rattle.space.specs.between.Working.{Sized}
use Rattle.base.proofs.Signed.{add_small, sub_small, mul_small}

-- a test of what is read back from the bits of z is a test of z
pub of-bits : {r : Bool} (z : ℤ) → SFits w64 z → r ≡ near (to_z w64 (of_z w64 z)) → near z ≡ r
of-bits z f e = rw (to_z-of_z w64 z f) at (sym e)

pub near-small : (z : ℤ) → near z ≡ true → Small 50000 z
near-small z e = record { small = leb-true _ _ e }

pub near-sized : (p : Point) → near_point p ≡ true → Sized 50000 p
unfolding near_point
near-sized p e =
    let xy = and_left (near p.x && near p.y) (near p.z) e in
    record {
      x = near-small p.x (and_left (near p.x) (near p.y) xy);
      y = near-small p.y (and_right (near p.x) (near p.y) xy);
      z = near-small p.z (and_right (near p.x && near p.y) (near p.z) e);
    }

pub from-sized : (p q : Point) → Sized 50000 p → Sized 50000 q → Sized 100000 (from_to p q)
from-sized p q s t = record { x = sub_small t.x s.x; y = sub_small t.y s.y; z = sub_small t.z s.z }

-- 6 * 10 ^ 15 bounds the determinant of entries up to 10 ^ 5
pub det-small : (a b c : Point) → Sized 100000 a → Sized 100000 b → Sized 100000 c → Small 6000000000000000 (det a b c)
det-small a b c p q r =
    add_small
    (sub_small
    (mul_small p.x (sub_small (mul_small q.y r.z) (mul_small q.z r.y)))
    (mul_small p.y (sub_small (mul_small q.x r.z) (mul_small q.z r.x))))
    (mul_small p.z (sub_small (mul_small q.x r.y) (mul_small q.y r.x)))

-- the box of points in bounds lies between -6,000,000,000,000,000 and 6,000,000,000,000,000
pub box-small : (p q r s : Point) → Sized 50000 p → Sized 50000 q → Sized 50000 r → Sized 50000 s → Small 6000000000000000 (box p q r s)
unfolding box
box-small p q r s a b c d =
    det-small (from_to p q) (from_to p r) (from_to p s) (from-sized p q a b) (from-sized p r a c) (from-sized p s a d)

-- the code's test of a box
pub above_is : (z : ℤ) → lt_z (pos 0) z ≡ is_above0 z
above_is (pos zero) = refl
above_is (pos (suc k)) = lt-ltb 0 (suc k) (omega arith)
above_is (negsuc k) = refl

-- The text of a number of 64 bits, by its size. Assumes nothing.
use mathlib.Core.Path.{◌≡◌, refl}
use mathlib.Core.Bool.{true, false, false≢true}
use mathlib.Core.List.{◌∷◌}
use Prim.Native.Nat.{suc, ◌<◌}
use native.Mathlib.Omega.{arith}
use borrow.Author.Tests.{ltb-true}
use lib.IntN.{ℤ, pos, negsuc, nat_abs}
use lib.Signed.{lt_z}
use mir.Syntax.{w64}
use mir.Val.{SFits, to_z, of_z}
use mir.ValLaws.{to_z-of_z}
use Rattle.lines.specs.Text.{decimal}
use Rattle.writing_lists.specs.Printed.{signed_text}

-- ---- below 0 or not

pub text-below : (z : ℤ) → lt_z z (pos 0) ≡ true → signed_text z ≡ 45 ∷ decimal (nat_abs z)
text-below (pos n) e = absurd (let h : n < 0 = ltb-true n 0 e in omega arith)
text-below (negsuc k) e = refl

pub text_above : (z : ℤ) → lt_z z (pos 0) ≡ false → signed_text z ≡ decimal (nat_abs z)
text_above (pos n) e = refl
text_above (negsuc k) e = absurd (false≢true (cc))

-- ---- what a local holds

pub kept : (z : ℤ) → SFits w64 z → to_z w64 (of_z w64 z) ≡ z
kept z f = to_z-of_z w64 z f

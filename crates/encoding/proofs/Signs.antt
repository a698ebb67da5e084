-- The bits of a signed number of 32 bits, as a number. Assumes nothing.
use mathlib.Core.Path.{◌≡◌, refl}
use native.Mathlib.Omega.{arith}
use lib.IntN.{ℤ, pos, negsuc}
use mir.Syntax.{w32}
use mir.Val.{SFits, to_z, of_z}
use mir.ValLaws.{to_z-of_z}
use Rattle.encoding.specs.File.{bits_of}

same_bits : (z : ℤ) → of_z w32 z ≡ bits_of z
unfolding bits_of
same_bits (pos n) = refl
same_bits (negsuc k) = omega arith

-- of a number that a slice holds
pub bits_are : (z : ℤ) → SFits w32 z → of_z w32 (to_z w32 (of_z w32 z)) ≡ bits_of z
bits_are z h = rw (to_z-of_z w32 z h) (same_bits z)

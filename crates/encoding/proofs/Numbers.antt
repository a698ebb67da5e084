-- The bytes of a number: how many there are, that the bits above do not count, and the bits of a signed number.
-- Assumes nothing.
use mathlib.Core.Path.{◌≡◌, refl, sym, ◌∙◌, ap}
use mathlib.Core.List.{[], ◌∷◌}
use Prim.Native.Nat.{ℕ, ◌+◌, ◌*◌, ◌/◌, ◌%◌, ◌<◌}
use native.Mathlib.Nat.{add-mul-mod_self_left, add-mul-div_left, mod-eq_of_lt}
use native.Mathlib.Omega.{arith}
use lib.IntN.{ℤ, pos, negsuc}
use lib.Signed.{mag}
use lib.ListN.{length}
use Rattle.encoding.specs.File.{u16_bytes, bits_of}

pub u16-long : (n : ℕ) → length (u16_bytes n) ≡ 2
unfolding u16_bytes
u16-long n = refl

-- the two low bytes, whatever stands above them
u16-low : (a b m : ℕ) → a < 256 → b < 256 → u16_bytes (a + 256 * (b + 256 * m)) ≡ a ∷ b ∷ []
unfolding u16_bytes
u16-low a b m h g =
    let e : (a + 256 * (b + 256 * m)) % 256 ≡ a = add-mul-mod_self_left a 256 (b + 256 * m) ∙ mod-eq_of_lt h in
    let d : (a + 256 * (b + 256 * m)) / 256 ≡ b + 256 * m = add-mul-div_left a (b + 256 * m) {y = 256} (omega arith) ∙ omega arith in
    let r : (b + 256 * m) % 256 ≡ b = add-mul-mod_self_left b 256 m ∙ mod-eq_of_lt g in
    rw (e, d, r)

-- of a number of more than 16 bits
pub u16-back : (a b m : ℕ) → a < 256 → b < 256 → u16_bytes (a + 256 * b + 65536 * m) ≡ a ∷ b ∷ []
u16-back a b m h g = let e : a + 256 * b + 65536 * m ≡ a + 256 * (b + 256 * m) = omega arith in ap u16_bytes e ∙ u16-low a b m h g

pub u16_mod : (n : ℕ) → u16_bytes (n % 65536) ≡ u16_bytes n
u16_mod n = go (n % 65536 % 256) (n % 65536 / 256) (n / 65536) (omega arith) (omega arith) (omega arith) (omega arith)
  where
    go : (a b m : ℕ) → a < 256 → b < 256 → n % 65536 ≡ a + 256 * b + 65536 * 0 → n ≡ a + 256 * b + 65536 * m → u16_bytes (n % 65536) ≡ u16_bytes n
    go a b m h g e d = ap u16_bytes e ∙ u16-back a b 0 h g ∙ sym (ap u16_bytes d ∙ u16-back a b m h g)

pub bits_below : (z : ℤ) → mag z < 2147483648 → bits_of z < 4294967296
unfolding bits_of
bits_below (pos n) h = omega arith
bits_below (negsuc k) h = omega arith

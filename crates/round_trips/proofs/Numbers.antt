-- A number's bytes and what they say undo each other, at 16 and at 32 bits and in two's complement.
-- Assumes nothing.
use mathlib.Core.Path.{◌≡◌, refl, sym, ◌∙◌, ap}
use mathlib.Core.Bool.{Bool, true, false, cond}
use mathlib.Core.List.{List, ◌++◌, append_assoc}
use Prim.Native.Nat.{ℕ, suc, ◌+◌, ◌*◌, ◌/◌, ◌%◌, ◌-◌, ◌≤◌, ◌<◌}
use native.Mathlib.Nat.{add-mul-div_left}
use native.Mathlib.Numerals.{add-one, add-two}
use native.Mathlib.Omega.{arith}
use lib.Dec.{ltb}
use lib.IntN.{ℤ, pos, negsuc, ◌-ℤ◌}
use lib.Signed.{mag}
use lib.ListN.{length, get_or, take, drop}
use lib.Seq.{drop-cons}
use borrow.Author.Tests.{lt-ltb, le-ltb}
use Rattle.layout.specs.Bytes.{u16_at, u32_at, signed32}
use Rattle.encoding.specs.File.{u16_bytes, u32_bytes, bits_of}
use Rattle.encoding.proofs.Numbers.{u16-back}
use Rattle.round_trips.specs.Inverse.{AllBelow}

pub u16-says : (n : ℕ) → n < 65536 → n % 256 + 256 * (n / 256 % 256) ≡ n
u16-says n h = omega arith

pub u32-says : (n : ℕ) → n < 4294967296 → n % 256 + 256 * (n / 256 % 256) + 65536 * (n / 65536 % 256 + 256 * (n / 65536 / 256 % 256)) ≡ n
u32-says n h = omega arith

pub bits_signed : (n : ℕ) → n < 4294967296 → bits_of (signed32 n) ≡ n
unfolding bits_of signed32
bits_signed n h = go (ltb n 2147483648)
  where
    go : (b : Bool) → bits_of (cond b (pos n) (pos n -ℤ pos 4294967296)) ≡ n
    go true = refl
    go false = rw (lt-ltb n 4294967296 h) (omega arith)

pub signed_bits : (z : ℤ) → mag z < 2147483648 → signed32 (bits_of z) ≡ z
unfolding bits_of signed32
signed_bits (pos n) h = rw (lt-ltb n 2147483648 h)
signed_bits (negsuc k) h =
    let e : 4294967296 - (4294967295 - k) - 1 ≡ k = omega arith in
    rw (le-ltb (4294967295 - k) 2147483648 (omega arith), lt-ltb (4294967295 - k) 4294967296 (omega arith)) (ap negsuc (omega arith))

module _ (q : List ℕ) (h : AllBelow 256 q) (i w : ℕ) where
  -- the next two bytes of a list, whatever stands above them in the number
  low16 : (m : ℕ) → i + 2 ≤ length q → take (suc (suc w)) (drop i q) ≡ u16_bytes (u16_at q i + 65536 * m) ++ take w (drop (i + 2) q)
  low16 m g =
      rw (drop-cons q i 0 (omega arith), drop-cons q (suc i) 0 (omega arith))
      (rw (add-one, add-two, u16-back (get_or q i 0) (get_or q (suc i) 0) m (h.below i) (h.below (suc i))))

  -- the next two bytes are those of the number that they say
  pub next16 : i + 2 ≤ length q → take (suc (suc w)) (drop i q) ≡ u16_bytes (u16_at q i) ++ take w (drop (i + 2) q)
  next16 g = let e : u16_at q i + 65536 * 0 ≡ u16_at q i = omega arith in low16 0 g ∙ ap (λ n. u16_bytes n ++ take w (drop (i + 2) q)) e

pub at-below : (q : List ℕ) → AllBelow 256 q → (i : ℕ) → u16_at q i < 65536
at-below q h i = omega (arith, h.below i, h.below (i + 1))

-- the next four bytes
pub next32 : (q : List ℕ) → AllBelow 256 q → (i w : ℕ) → i + 4 ≤ length q → take (suc (suc (suc (suc w)))) (drop i q) ≡ u32_bytes (u32_at q i) ++ take w (drop (i + 4) q)
unfolding u32_bytes
next32 q h i w g =
    let a = u16_at q i in
    let b = u16_at q (i + 2) in
    let e : (a + 65536 * b) / 65536 ≡ b = add-mul-div_left a b {y = 65536} (omega arith) ∙ omega (arith, at-below q h i) in
    let d : i + 2 + 2 ≡ i + 4 = omega arith in
    low16 q h i (suc (suc w)) b (omega arith)
    ∙ ap (λ r. u16_bytes (a + 65536 * b) ++ r) (next16 q h (i + 2) w (omega arith) ∙ ap (λ k. u16_bytes b ++ take w (drop k q)) d)
    ∙ rw e (sym (append_assoc (u16_bytes (a + 65536 * b)) (u16_bytes b) (take w (drop (i + 4) q))))

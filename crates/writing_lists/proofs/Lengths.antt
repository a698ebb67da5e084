-- How long the texts can be: 20 digits and a sign, and a space before the next number. Assumes nothing.
use mathlib.Core.Path.{◌≡◌, refl, sym, ap}
use mathlib.Core.List.{List, [], ◌∷◌, ◌++◌}
use Prim.Native.Nat.{ℕ, suc, ◌+◌, ◌-◌, ◌≤◌, ◌<◌}
use native.Mathlib.Omega.{arith}
use lib.IntN.{ℤ, pos, negsuc, nat_abs}
use lib.ListN.{length, get_or, take, drop, length-append, length-take, length-drop}
use lib.Seq.{take_all}
use Rattle.base.specs.Lists.{spread}
use Rattle.lines.proofs.Digits.{decimal-short, decimal-length}
use Rattle.writing_lists.specs.Printed.{signed_text, apart, line_of}

pub signed_length : (z : ℤ) → length (signed_text z) ≤ 21
signed_length (pos n) = omega (arith, decimal-length n)
signed_length (negsuc k) = omega (arith, decimal-length (suc k))

pub apart-length : (z : ℤ) → length (apart z) ≤ 22
apart-length z = omega (arith, signed_length z)

-- a number of at most five digits, with its sign
pub signed_short : (z : ℤ) → nat_abs z < 100000 → length (signed_text z) ≤ 6
signed_short (pos n) h = omega (arith, decimal-short 4 n (omega arith) h)
signed_short (negsuc k) h = omega (arith, decimal-short 4 (suc k) (omega arith) h)

-- the numbers and a character behind each
abbrev pub widths : List ℤ → ℕ
widths [] = 0
widths (z ∷ zs) = length (signed_text z) + 1 + widths zs

apart_widths : (zs : List ℤ) → length (spread apart zs) ≡ widths zs
unfolding spread
apart_widths [] = refl
apart_widths (z ∷ zs) = omega (arith, length-append (apart z) (spread apart zs), apart_widths zs)

pub line_widths : (z : ℤ) (zs : List ℤ) → length (line_of (z ∷ zs)) ≡ widths (z ∷ zs)
unfolding line_of
line_widths z zs =
    omega (
      arith,
      length-append (signed_text z ++ spread apart zs) (10 ∷ []),
      length-append (signed_text z) (spread apart zs),
      apart_widths zs,
    )

-- ---- a line, by its first number and the others, as the code takes them

pub line_none : (zs : List ℤ) → length zs ≡ 0 → line_of zs ≡ 10 ∷ []
unfolding line_of
line_none [] h = refl
line_none (z ∷ zs) h = absurd (let e : suc (length zs) ≡ 0 = h in omega arith)

pub line_some : (zs : List ℤ) → (length zs ≡ 0 → ⊥) → line_of zs ≡ signed_text (get_or zs 0 (pos 0)) ++ spread apart (take (length zs - 1) (drop 1 zs)) ++ 10 ∷ []
unfolding line_of
line_some [] h = absurd (h refl)
line_some (z ∷ zs) h =
    ap (λ l. signed_text z ++ spread apart l ++ 10 ∷ []) (sym (take_all (suc (length zs) - 1) zs (omega arith)))

pub others-length : (zs : List ℤ) → length (take (length zs - 1) (drop 1 zs)) ≡ length zs - 1
others-length zs = omega (arith, length-take (length zs - 1) (drop 1 zs), length-drop 1 zs)

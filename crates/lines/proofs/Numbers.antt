-- A list of numbers as text, one number more at a time. Assumes nothing.
use mathlib.Core.Path.{◌≡◌, refl, ap}
use mathlib.Core.List.{List, [], ◌∷◌, ◌++◌}
use Prim.Native.Nat.{ℕ, ◌+◌, ◌*◌, ◌≤◌, ◌<◌}
use native.Mathlib.Omega.{arith}
use native.Mathlib.Nat.{mul-suc}
use Prim.Native.Nat.{min}
use lib.ListN.{length, get_or, take, drop, length-append, length-take}
use Rattle.base.specs.Laid.{Laid}
use Rattle.base.proofs.Lay.{laid_more}
use Rattle.base.proofs.Runs.{spread-more}
use lib.Seq.{length-take-le}
use Rattle.base.specs.Lists.{spread}
use Rattle.record.specs.Entries.{corner_places, tet_places, count_at, tets_at}
use Rattle.lines.specs.Text.{decimal, spaced, numbers, corners_text, tets_text, cell_line, corners_most, tets_most, line_most}
use Rattle.lines.proofs.Digits.{decimal-length}

pub spaced-length : (x : ℕ) → length (spaced x) ≤ 21
unfolding spaced
spaced-length x = omega (arith, decimal-length x)

-- the texts of a list's elements, one behind the other
module _ {A : Type 0} (f : A → List ℕ) where
  pub spread-nil : spread f [] ≡ []
  unfolding spread
  spread-nil = refl

  module _ (m : ℕ) (short : (x : A) → length (f x) ≤ m) where
    pub spread-most : (l : List A) → length (spread f l) ≤ m * length l
    unfolding spread
    spread-most [] = omega arith
    spread-most (x ∷ xs) =
        rw mul-suc (omega (arith, length-append (f x) (spread f xs), short x, spread-most xs))

    pub spread-part : (l : List A) (i : ℕ) → i ≤ length l → length (spread f (take i l)) ≤ m * i
    spread-part l i h = rw (length-take-le i l h) at (spread-most (take i l))

pub numbers-none : numbers [] ≡ []
unfolding numbers
numbers-none = spread-nil spaced

pub numbers_more : (l : List ℕ) (i : ℕ) → i < length l → numbers (take (i + 1) l) ≡ numbers (take i l) ++ spaced (get_or l i 0)
unfolding numbers
numbers_more l i h = spread-more spaced 0 l i h

pub numbers-length : (l : List ℕ) → length (numbers l) ≤ 21 * length l
unfolding numbers
numbers-length l = spread-most spaced 21 spaced-length l

pub part_length : (l : List ℕ) (i : ℕ) → i ≤ length l → length (numbers (take i l)) ≤ 21 * i
unfolding numbers
part_length l i h = spread-part spaced 21 spaced-length l i h

pub most-length : (l : List ℕ) (k most : ℕ) → k ≤ most → length (numbers (take k l)) ≤ 21 * most
most-length l k most h = omega (arith, numbers-length (take k l), length-take k l)

pub corners-length : (r : List ℕ) → length (corners_text r) ≤ corners_most
unfolding corners_text
corners-length r =
    omega (
      arith,
      length-append (decimal (get_or r 0 0)) (numbers (take (min (get_or r 0 0) corner_places) (drop 1 r))),
      decimal-length (get_or r 0 0),
      most-length (drop 1 r) (min (get_or r 0 0) corner_places) corner_places (omega arith),
    )

pub tets-length : (r : List ℕ) → length (tets_text r) ≤ tets_most
unfolding tets_text
tets-length r = omega (arith, most-length (drop tets_at r) (min (get_or r count_at 0) tet_places) tet_places (omega arith))

pub line_length : (r : List ℕ) → length (cell_line r) ≤ line_most
unfolding cell_line
line_length r =
    omega (
      arith,
      length-append (corners_text r ++ tets_text r) (10 ∷ []),
      length-append (corners_text r) (tets_text r),
      corners-length r,
      tets-length r,
    )

-- two texts, one behind the other
module _ {from r s : ℕ} {xs ys zs old l m : List ℕ} (e : r ≡ from + length xs) (d : Laid from xs old l) where
  pub behind : s ≡ r + length ys → Laid r ys l m → zs ≡ xs ++ ys → (s ≡ from + length zs) × Laid from zs old m
  behind f g z = (omega (arith, ap length z, length-append xs ys), laid_more d r e g z)

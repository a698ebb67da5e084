-- A line's text, number by number, and a list that fills another from its first entry on. Assumes nothing.
use mathlib.Core.Path.{◌≡◌, sym, ◌∙◌, ap}
use mathlib.Core.List.{List, [], ◌∷◌, ◌++◌, append_assoc, append-nil}
use Prim.Native.Nat.{ℕ, suc, ◌+◌, ◌≤◌, ◌<◌}
use native.Mathlib.Numerals.{add-one}
use native.Mathlib.Omega.{arith}
use lib.IntN.{ℤ}
use lib.ListN.{length, get_or, take, drop, set}
use lib.Seq.{append_snoc, drop-cons, take-suc, set_at, length-take-le, take-length}
use Rattle.base.specs.Lists.{spread}
use Rattle.writing_lists.specs.Printed.{signed_text, apart, line_of}

pub line_one : (z : ℤ) → line_of (z ∷ []) ≡ signed_text z ++ 10 ∷ []
unfolding line_of spread
line_one z = ap (λ l. l ++ 10 ∷ []) (append-nil (signed_text z))

pub line_more : (z y : ℤ) (zs : List ℤ) → line_of (z ∷ y ∷ zs) ≡ (signed_text z ++ 32 ∷ []) ++ line_of (y ∷ zs)
unfolding line_of spread
line_more z y zs =
    let l = signed_text y ++ spread apart zs in
    append_assoc (signed_text z) (32 ∷ l) (10 ∷ []) ∙ sym (append_snoc (signed_text z) 32 (l ++ 10 ∷ []))

module _ {A : Type 0} (xs old : List A) where
  -- the first i entries are those of xs
  abbrev pub over : ℕ → List A
  over i = take i xs ++ drop i old

  pub over_next : (i : ℕ) (d : A) → i < length xs → length xs ≤ length old → set (over i) i (get_or xs i d) ≡ over (i + 1)
  over_next i d h g =
      let a = get_or xs i d in
      ap (λ r. set (take i xs ++ r) i a) (drop-cons old i d (omega arith))
      ∙ set_at (take i xs) (get_or old i d) (drop (suc i) old) a i (length-take-le i xs (omega arith))
      ∙ sym (append_snoc (take i xs) a (drop (suc i) old))
      ∙ ap (λ r. r ++ drop (suc i) old) (sym (take-suc xs i d h))
      ∙ ap over (sym (add-one i))

  pub over_all : over (length xs) ≡ xs ++ drop (length xs) old
  over_all = ap (λ l. l ++ drop (length xs) old) (take-length xs)

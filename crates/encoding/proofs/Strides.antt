-- Lists laid end to end in pieces of one length: how long they are, what stands in piece j, and that pieces cut from a
-- list join to it.
-- Assumes nothing.
use mathlib.Core.Path.{◌≡◌, sym, ◌∙◌, ap}
use mathlib.Core.List.{List, [], ◌∷◌, ◌++◌}
use Prim.Native.Nat.{ℕ, zero, suc, ◌+◌, ◌*◌, ◌<◌}
use native.Mathlib.Nat.{mul-zero, mul-suc, zero-add}
use native.Mathlib.Omega.{arith}
use lib.ListN.{length, get_or, take, drop, length-append, get_or-append}
use lib.Seq.{get_or-append-add, take-add, drop-drop}
use Rattle.base.specs.Lists.{spread, from, up_to}
use Rattle.base.proofs.Loop.{length_from}

module _ {A : Type 0} (f : A → List ℕ) (w : ℕ) (even : (x : A) → length (f x) ≡ w) where
  pub length-spread : (xs : List A) → length (spread f xs) ≡ w * length xs
  unfolding spread
  length-spread [] = sym (mul-zero w)
  length-spread (x ∷ xs) = omega (arith, length-append (f x) (spread f xs), even x, length-spread xs, mul-suc w (length xs))

  -- entry k of piece j
  pub spread_at : (xs : List A) (d : A) (j k : ℕ) → j < length xs → k < w → get_or (spread f xs) (w * j + k) 0 ≡ get_or (f (get_or xs j d)) k 0
  unfolding spread
  spread_at [] d j k h g = absurd (omega arith)
  spread_at (x ∷ xs) d zero k h g =
      let e : w * 0 + k ≡ k = omega (arith, mul-zero w) in
      ap (λ i. get_or (f x ++ spread f xs) i 0) e ∙ get_or-append (f x) (spread f xs) 0 k (omega (arith, even x))
  spread_at (x ∷ xs) d (suc j) k h g =
      let e : w * suc j + k ≡ length (f x) + (w * j + k) = omega (arith, even x, mul-suc w j) in
      ap (λ i. get_or (f x ++ spread f xs) i 0) e ∙ get_or-append-add (f x) (spread f xs) (w * j + k) 0 ∙ spread_at xs d j k (omega arith) g

get_or-run : (i n j : ℕ) → j < n → get_or (from i n) j 0 ≡ i + j
get_or-run i zero j h = absurd (omega arith)
get_or-run i (suc n) zero h = omega arith
get_or-run i (suc n) (suc j) h = get_or-run (suc i) n j (omega arith) ∙ omega arith

module _ (f : ℕ → List ℕ) (w : ℕ) where
  -- the same of pieces by their number
  pub piece_at : ((x : ℕ) → length (f x) ≡ w) → (n j k : ℕ) → j < n → k < w → get_or (spread f (up_to n)) (w * j + k) 0 ≡ get_or (f j) k 0
  piece_at even n j k h g =
      spread_at f w even (up_to n) 0 j k (omega (arith, length_from 0 n)) g
      ∙ ap (λ i. get_or (f i) k 0) (get_or-run 0 n j h ∙ zero-add j)

  pub rejoin : (q : List ℕ) (i n : ℕ) → ((j : ℕ) → j < i + n → f j ≡ take w (drop (w * j) q)) → spread f (from i n) ≡ take (w * n) (drop (w * i) q)
  unfolding spread
  rejoin q i zero h = rw mul-zero
  rejoin q i (suc n) h =
      let e : w * suc n ≡ w + w * n = omega (arith, mul-suc w n) in
      let d : drop w (drop (w * i) q) ≡ drop (w * suc i) q = drop-drop w (w * i) q ∙ ap (λ k. drop k q) (sym (mul-suc w i)) in
      rw (e, take-add w (w * n) (drop (w * i) q), d, h i (omega arith), rejoin q (suc i) n (λ j g. h j (omega arith)))

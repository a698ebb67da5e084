-- One part number: all agree where all agree with the first. Assumes nothing.
use mathlib.Core.Path.{◌≡◌, refl, sym, ◌∙◌, ap}
use mathlib.Core.Bool.{Bool, true, false, ◌&&◌}
use mathlib.Core.List.{List, [], ◌∷◌}
use Prim.Native.Nat.{ℕ, ◌<◌}
use native.Mathlib.Omega.{arith}
use borrow.Author.Tests.{eqb-true}
use lib.Dec.{eqb}
use lib.ListN.{length, get_or}
use Rattle.base.specs.Lists.{all}
use Rattle.base.proofs.Bools.{and_left, and_right}
use Rattle.cells.specs.Cells.{all_agree}

module _ (ps : List ℕ) where
  abbrev of : ℕ → ℕ → Bool
  of p i = eqb p (get_or ps i 0)

  -- where all of l and of xs are of part p, all pairs agree
  agree : (p : ℕ) (l xs : List ℕ) → all (of p) l ≡ true → all (of p) xs ≡ true → all (λ i. all (of (get_or ps i 0)) l) xs ≡ true
  agree p l [] h t = refl
  agree p l (x ∷ xs) h t =
      let q = eqb-true p (get_or ps x 0) (and_left (of p x) (all (of p) xs) t) in
      let m : all (of (get_or ps x 0)) l ≡ true = rw (sym q) h in
      rw (m, agree p l xs h (and_right (of p x) (all (of p) xs) t))

  pub one_none : (xs : List ℕ) → length xs ≡ 0 → true ≡ all_agree (λ i. get_or ps i 0) xs
  one_none [] h = refl
  one_none (x ∷ xs) h = absurd (omega arith)

  pub one-first : (xs : List ℕ) → 0 < length xs → all (of (get_or ps (get_or xs 0 0) 0)) xs ≡ all_agree (λ i. get_or ps i 0) xs
  one-first [] h = absurd (omega arith)
  one-first (x ∷ xs) h = go (all (of (get_or ps x 0)) (x ∷ xs)) refl
    where
      go : (a : Bool) → all (of (get_or ps x 0)) (x ∷ xs) ≡ a → all (of (get_or ps x 0)) (x ∷ xs) ≡ all (λ i. all (of (get_or ps i 0)) (x ∷ xs)) (x ∷ xs)
      go true e = e ∙ sym (agree (get_or ps x 0) (x ∷ xs) (x ∷ xs) e e)
      go false e = e ∙ sym (ap (λ a. a && all (λ i. all (of (get_or ps i 0)) (x ∷ xs)) xs) e)

-- The test of a new vertex, as the code makes it.
-- Assumes nothing.
use Prim.Native.Nat.{ℕ, zero, suc, ◌≤◌}
use mathlib.Core.Path.{◌≡◌, refl, sym, ◌∙◌, ap}
use mathlib.Core.Bool.{Bool, true, false, ◌&&◌}
use mathlib.Core.List.{List, [], ◌∷◌, map}
use native.Mathlib.Omega.{arith}
use lib.Dec.{ltb}
use lib.ListN.{length, get_or, take}
use Rattle.std.specs.List.{list_all}
use Rattle.base.specs.Lists.{all, from, up_to, is_in}
use Rattle.base.proofs.Loop.{listed}
use Rattle.portions.specs.between.Tuples.{front}
use Rattle.levels.specs.between.Levels.{lesser}
use Rattle.levels.specs.between.Passing.{is_new_above}

-- what a chain answers, in the words of these contracts
pub all-listed : (p : ℕ → Bool) (xs : List ℕ) → list_all p xs ≡ all p xs
all-listed p [] = refl
all-listed p (x ∷ xs) = ap (λ b. p x && b) (all-listed p xs)

pub take-run : (f : ℕ → ℕ) (i k d : ℕ) → d ≤ k → take d (map f (from i k)) ≡ map f (from i d)
take-run f i k zero h = refl
take-run f i zero (suc d) h = absurd (omega arith)
take-run f i (suc k) (suc d) h = ap (λ l. f i ∷ l) (take-run f (suc i) k d (omega arith))

pub take-front : (d : ℕ) (s : List ℕ) → d ≤ length s → take d s ≡ front d s
take-front d s h = ap (take d) (sym (listed 0 s)) ∙ take-run (λ i. get_or s i 0) 0 (length s) d h

module _ (x d : ℕ) (s : List ℕ) (h : d ≤ length s) {r : Bool} (e : r ≡ is_in (get_or s d 0) (take d s)) where
  found : r ≡ is_in (get_or s d 0) (front d s)
  found = e ∙ ap (is_in (get_or s d 0)) (take-front d s h)

  pub comes_not : r ≡ true → false ≡ is_new_above x d s
  unfolding is_new_above
  comes_not t = rw (sym found ∙ t)

  pub comes_new : {q : Bool} → r ≡ false → q ≡ all (λ k. ltb (get_or s k 0) (get_or s d 0)) (up_to (get_or lesser x 0)) → q ≡ is_new_above x d s
  unfolding is_new_above
  comes_new {q} t a = a ∙ rw (sym found ∙ t)

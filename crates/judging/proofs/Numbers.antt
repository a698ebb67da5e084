-- A cell's tetrahedra by their numbers: found, and gathered in an array. Assumes nothing.
use mathlib.Core.Path.{◌≡◌, refl, sym, ◌∙◌, ap, subst}
use mathlib.Core.Bool.{Bool, true, false, cond}
use mathlib.Core.List.{List, [], ◌∷◌, ◌++◌}
use Prim.Native.Nat.{ℕ, zero, suc, ◌+◌, ◌/◌, ◌≤◌, ◌<◌}
use native.Mathlib.Numerals.{add-one}
use native.Mathlib.Omega.{arith}
use lib.ListN.{length, get_or, take, set, replicate, length-replicate, length-set}
use lib.Seq.{take-suc-set}
use Rattle.base.specs.Lists.{keep, from, up_to}
use Rattle.tets_around.specs.between.Build.{Within}
use Rattle.cells.specs.between.Rows.{owns, own_numbers}
use Rattle.filling.specs.declared.Tets.{Tets}
use Rattle.filling.specs.between.Numbered.{Numbered}
use Rattle.filling.proofs.Found.{keep-more, keep_skip}

-- a kept number is one of those that it was kept of
kept-below : (b : ℕ → Bool) (k i j : ℕ) → j < length (keep b (from i k)) → get_or (keep b (from i k)) j 0 < i + k
unfolding keep
kept-below b zero i j h = absurd (omega arith)
kept-below b (suc k) i j h = go (b i) j h (kept-below b k (suc i))
  where
    go : (u : Bool) (j : ℕ) → j < length (cond u (i ∷ keep b (from (suc i) k)) (keep b (from (suc i) k))) → ((j : ℕ) → j < length (keep b (from (suc i) k)) → get_or (keep b (from (suc i) k)) j 0 < suc i + k) → get_or (cond u (i ∷ keep b (from (suc i) k)) (keep b (from (suc i) k))) j 0 < i + suc k
    go true zero h r = omega arith
    go true (suc j) h r = omega (arith, r j (omega arith))
    go false j h r = omega (arith, r j h)

pub found_as : {xs ys : List ℕ} {f : Tets} → xs ≡ ys → Numbered xs f → Numbered ys f
found_as {f = f} e h = subst (λ l. Numbered l f) e h

module _ (ls ps : List ℕ) (qs : List (List ℕ)) (c : List ℕ) where
  pub numbers-within : Within (length ls / 4) (own_numbers ls qs c)
  unfolding own_numbers
  numbers-within = record { below = λ k h. omega (arith, kept-below (owns ls qs c) (length ls / 4) 0 k h) }

  pub listed-within : {xs : List ℕ} → xs ≡ own_numbers ls qs c → length ps ≡ length ls / 4 → Within (length ls / 4) xs × Within (length ps) xs
  listed-within e p = (rw e numbers-within, rw (e, p) numbers-within)

-- ---- all of them, gathered in an array of 2,048

pub record Gathered (b : ℕ → Bool) (i : ℕ) (l : List ℕ) (k : ℕ) : Type 0 where
  pub low : k ≤ i
  pub long : length l ≡ 2048
  pub is : take k l ≡ keep b (up_to i)

pub gather_start : (b : ℕ → Bool) → Gathered b 0 (replicate 2048 65535) 0
unfolding keep
gather_start b = record { low = omega arith; long = length-replicate {A = ℕ} 2048 65535; is = refl }

module _ {b : ℕ → Bool} {i k : ℕ} {l : List ℕ} (g : Gathered b i l k) where
  pub gather_take : k < 2048 → b i ≡ true → Gathered b (i + 1) (set l k i) (k + 1)
  gather_take h t = record {
    low = omega (arith, g.low);
    long = length-set l k i ∙ g.long;
    is = ap (λ j. take j (set l k i)) (add-one k) ∙ take-suc-set l k i (omega (arith, g.long)) ∙ ap (λ r. r ++ (i ∷ [])) g.is ∙ sym (keep-more b i t);
  }

  pub gather_skip : b i ≡ false → Gathered b (i + 1) l k
  gather_skip t = record { low = omega (arith, g.low); long = g.long; is = g.is ∙ sym (keep_skip b i t) }

pub gathered_all : (ls : List ℕ) (qs : List (List ℕ)) (c : List ℕ) {i k : ℕ} {l : List ℕ} → Gathered (owns ls qs c) i l k → i ≡ length ls / 4 → take k l ≡ own_numbers ls qs c
unfolding own_numbers
gathered_all ls qs c g e = g.is ∙ ap (λ n. keep (owns ls qs c) (up_to n)) e

-- The first refusal that applies: told by a chain of tests, over lists laid end to end,
-- and what is known where there is none.
-- Assumes nothing.
use mathlib.Core.Path.{◌≡◌, refl, sym, ◌∙◌}
use mathlib.Core.Bool.{Bool, true, false, cond}
use mathlib.Core.List.{List, [], ◌∷◌, ◌++◌}
use Prim.Native.Nat.{ℕ, ◌<◌}
use native.Mathlib.Omega.{arith}
use lib.Dec.{ltb}
use borrow.Author.Tests.{ltb-true}
use Rattle.base.specs.Lists.{all}
use Rattle.base.specs.Refusals.{Refusal, refuse, first_of}
use Rattle.base.proofs.Bools.{and_left, and_right}

-- ---- `if r { return k; } s`, where r is the result of a test and s the answer of those after it

module _ {a r : Bool} (e : r ≡ a) where
  pub told : (k : ℕ) (rs : List Refusal) → r ≡ true → k ≡ first_of (refuse k a ∷ rs)
  unfolding first_of
  told k rs t = rw (sym e ∙ t)

  pub past : (k : ℕ) (rs : List Refusal) {s : ℕ} → r ≡ false → s ≡ first_of rs → s ≡ first_of (refuse k a ∷ rs)
  unfolding first_of
  past k rs t q = q ∙ rw (sym e ∙ t)

pub none_left : 0 ≡ first_of []
unfolding first_of
none_left = refl

-- ---- none applies

abbrev pub Passed : List Refusal → Type 0
Passed [] = Unit {0}
Passed (r ∷ rs) = (r.applies ≡ false) × Passed rs

-- no number is 0
abbrev pub numbered : List Refusal → Bool
numbered rs = all (λ r. ltb 0 r.no) rs

pub passed : (rs : List Refusal) → numbered rs ≡ true → first_of rs ≡ 0 → Passed rs
unfolding first_of
passed [] n e = tt
passed (r ∷ rs) n e = go r.applies refl e (passed rs (and_right (ltb 0 r.no) (numbered rs) n))
  where
    go : (b : Bool) → r.applies ≡ b → cond b r.no (first_of rs) ≡ 0 → (first_of rs ≡ 0 → Passed rs) → (r.applies ≡ false) × Passed rs
    go true q d f = absurd (omega (arith, ltb-true 0 r.no (and_left (ltb 0 r.no) (numbered rs) n)))
    go false q d f = (q, f d)

-- ---- two lists laid end to end

pub first_past : (xs ys : List Refusal) → Passed xs → first_of (xs ++ ys) ≡ first_of ys
unfolding first_of
first_past [] ys p = refl
first_past (x ∷ xs) ys p = rw p.0 (first_past xs ys p.1)

pub first-told : (xs ys : List Refusal) → 0 < first_of xs → first_of (xs ++ ys) ≡ first_of xs
unfolding first_of
first-told [] ys h = absurd (omega arith)
first-told (x ∷ xs) ys h = go x.applies h (first-told xs ys)
  where
    go : (b : Bool) → 0 < cond b x.no (first_of xs) → (0 < first_of xs → first_of (xs ++ ys) ≡ first_of xs) → cond b x.no (first_of (xs ++ ys)) ≡ cond b x.no (first_of xs)
    go true l f = refl
    go false l f = f l

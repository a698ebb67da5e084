-- `before` is a total order, and lists that rise.
-- Assumes nothing.
use Prim.Native.Nat.{ℕ, zero, suc, ◌<◌}
use mathlib.Core.Path.{◌≡◌, refl, sym, ◌∙◌, ap, ap₂}
use mathlib.Core.Logic.{◌⊎◌, inl, inr}
use mathlib.Core.Bool.{Bool, true, false, cond, ◌&&◌, ◌||◌, true≢false}
use mathlib.Core.List.{List, [], ◌∷◌, ◌++◌, map, Memᴰ}
use lib.Dec.{eqb, ltb}
use lib.ListN.{length}
use native.Mathlib.Omega.{arith}
use native.Mathlib.Decide.{dec_lt}
use borrow.Author.Tests.{ltb-true, eqb-true, lt-ltb, le-ltb, eq-eqb}
use Rattle.base.specs.Lists.{all, keep, spread, from}
use Rattle.portions.specs.Portions.{before, rises}
use Rattle.base.proofs.Lists.{both_left, both_right, all-at, all_from}
use Rattle.base.proofs.Members.{keep_at, all_map, all_both, spread_at, from_at}

-- ── the order ──

pub before-less : (x y : ℕ) (xs ys : List ℕ) → x < y → before (x ∷ xs) (y ∷ ys) ≡ true
unfolding before
before-less x y xs ys h = rw (lt-ltb x y h)

pub before_same : (x : ℕ) (xs ys : List ℕ) → before (x ∷ xs) (x ∷ ys) ≡ before xs ys
unfolding before
before_same x xs ys = rw (le-ltb x x (omega arith), eq-eqb x x refl)

pub before_cases : (x y : ℕ) (xs ys : List ℕ) → before (x ∷ xs) (y ∷ ys) ≡ true → (x < y) ⊎ ((x ≡ y) × (before xs ys ≡ true))
unfolding before
before_cases x y xs ys e = go (ltb x y) (eqb x y) refl refl e
  where
    go : (a b : Bool) → ltb x y ≡ a → eqb x y ≡ b → (a || (b && before xs ys)) ≡ true → (x < y) ⊎ ((x ≡ y) × (before xs ys ≡ true))
    go true b p q e = inl (ltb-true x y p)
    go false true p q e = inr (eqb-true x y q, e)
    go false false p q e = absurd (true≢false (sym e))

pub before_irrefl : (x : List ℕ) → before x x ≡ false
unfolding before
before_irrefl [] = refl
before_irrefl (x ∷ xs) = before_same x xs xs ∙ before_irrefl xs

pub before_trans : (x y z : List ℕ) → before x y ≡ true → before y z ≡ true → before x z ≡ true
unfolding before
before_trans [] y z a b = a
before_trans (x ∷ xs) [] z a b = absurd (true≢false (sym a))
before_trans (x ∷ xs) (y ∷ ys) [] a b = absurd (true≢false (sym b))
before_trans (x ∷ xs) (y ∷ ys) (z ∷ zs) a b = go (before_cases x y xs ys a) (before_cases y z ys zs b) (before_trans xs ys zs)
  where
    go : (x < y) ⊎ ((x ≡ y) × (before xs ys ≡ true)) → (y < z) ⊎ ((y ≡ z) × (before ys zs ≡ true)) → (before xs ys ≡ true → before ys zs ≡ true → before xs zs ≡ true) → before (x ∷ xs) (z ∷ zs) ≡ true
    go (inl p) (inl q) r = before-less x z xs zs (omega arith)
    go (inl p) (inr q) r = before-less x z xs zs (omega arith)
    go (inr p) (inl q) r = before-less x z xs zs (omega arith)
    go (inr p) (inr q) r = ap (λ v. before (x ∷ xs) (v ∷ zs)) (sym (p.0 ∙ q.0)) ∙ before_same x xs zs ∙ r p.1 q.1

-- of two keys of one length, one is before the other or they are the same
pub before-total : (x y : List ℕ) → length x ≡ length y → (before x y ≡ true) ⊎ ((before y x ≡ true) ⊎ (x ≡ y))
before-total [] [] e = inr (inr refl)
before-total [] (y ∷ ys) e = absurd (let z : ⊥ = omega arith in z)
before-total (x ∷ xs) [] e = absurd (let z : ⊥ = omega arith in z)
before-total (x ∷ xs) (y ∷ ys) e =
    elim (dec_lt x y) [
      | yes p ↦ inl (before-less x y xs ys p)
      | no p ↦ elim (dec_lt y x) [
        | yes q ↦ inr (inl (before-less y x ys xs q))
        | no q ↦ go (omega arith) (before-total xs ys (omega arith))
      ]
    ]
  where
    go : x ≡ y → (before xs ys ≡ true) ⊎ ((before ys xs ≡ true) ⊎ (xs ≡ ys)) → (before (x ∷ xs) (y ∷ ys) ≡ true) ⊎ ((before (y ∷ ys) (x ∷ xs) ≡ true) ⊎ (x ∷ xs ≡ y ∷ ys))
    go q (inl a) = inl (rw q (before_same y xs ys ∙ a))
    go q (inr (inl a)) = inr (inl (rw q (before_same y ys xs ∙ a)))
    go q (inr (inr a)) = inr (inr (ap₂ (λ z zs. z ∷ zs) q a))

-- ── lists that rise ──

module _ {A : Type 0} where
  -- a list that rises still rises when a test leaves some out
  pub keep-rises : (b : A → A → Bool) (p : A → Bool) (xs : List A) → rises b xs ≡ true → rises b (keep p xs) ≡ true
  unfolding keep rises
  keep-rises b p [] e = refl
  keep-rises b p (x ∷ xs) e = go (p x) (keep-rises b p xs (both_right (all (b x) xs) _ e))
    where
      go : (t : Bool) → rises b (keep p xs) ≡ true → rises b (cond t (x ∷ keep p xs) (keep p xs)) ≡ true
      go true r = rw r (rw (all_from (b x) (keep p xs) (λ y h. all-at (b x) xs (both_left (all (b x) xs) _ e) (keep_at p xs h).0)))
      go false r = r

  -- rising in one order, and so in another
  pub rises_so : (b d : A → A → Bool) (xs : List A) → ((x y : A) → Memᴰ x xs → Memᴰ y xs → b x y ≡ true → d x y ≡ true) → rises b xs ≡ true → rises d xs ≡ true
  unfolding rises
  rises_so b d [] f e = refl
  rises_so b d (x ∷ xs) f e =
      rw (rises_so b d xs (λ y z g h. f y z (Memᴰ.tail g) (Memᴰ.tail h)) (both_right (all (b x) xs) _ e))
      (rw (all_from (d x) xs (λ y h. f x y (Memᴰ.head refl) (Memᴰ.tail h) (all-at (b x) xs (both_left (all (b x) xs) _ e) h))))

  pub rises-append : (b : A → A → Bool) (xs ys : List A) → rises b xs ≡ true → rises b ys ≡ true → ((x y : A) → Memᴰ x xs → Memᴰ y ys → b x y ≡ true) → rises b (xs ++ ys) ≡ true
  unfolding rises
  rises-append b [] ys e g f = g
  rises-append b (x ∷ xs) ys e g f =
      rw (rises-append b xs ys (both_right (all (b x) xs) _ e) g (λ y z h. f y z (Memᴰ.tail h)))
      (rw (all_both (b x) xs ys (both_left (all (b x) xs) _ e) (all_from (b x) ys (λ y h. f x y (Memᴰ.head refl) h))))

pub rises-map : {A B : Type 0} (b : B → B → Bool) (f : A → B) (xs : List A) → rises b (map f xs) ≡ rises (λ x y. b (f x) (f y)) xs
unfolding rises
rises-map b f [] = refl
rises-map b f (x ∷ xs) = ap₂ ◌&&◌ (all_map (b (f x)) f xs) (rises-map b f xs)

module _ {A B : Type 0} where
  pub rises-spread : (a : A → A → Bool) (b : B → B → Bool) (f : A → List B) (xs : List A) → rises a xs ≡ true → ((x : A) → rises b (f x) ≡ true) → ((x y : A) (u v : B) → a x y ≡ true → Memᴰ u (f x) → Memᴰ v (f y) → b u v ≡ true) → rises b (spread f xs) ≡ true
  unfolding rises spread
  rises-spread a b f [] e g h = refl
  rises-spread a b f (x ∷ xs) e g h =
      rises-append b (f x) (spread f xs) (g x) (rises-spread a b f xs (both_right (all (a x) xs) _ e) g h)
      (λ u v p q. let r = spread_at f xs q in h x r.0 u v (all-at (a x) xs (both_left (all (a x) xs) _ e) r.1) p r.2)

pub from-rises : (i k : ℕ) → rises ltb (from i k) ≡ true
unfolding rises
from-rises i zero = refl
from-rises i (suc k) = rw (from-rises (suc i) k, all_from (ltb i) (from (suc i) k) (λ v h. lt-ltb i v (from_at (suc i) k h).0))

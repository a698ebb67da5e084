-- What is in a list that a test keeps, a function maps or lists are laid end to end in.
-- Assumes nothing.
use Prim.Native.Nat.{ℕ, zero, suc, ◌+◌, ◌<◌, ◌≤◌}
use mathlib.Core.Path.{◌≡◌, refl, sym, ◌∙◌, ap, ap₂, subst}
use mathlib.Core.Logic.{⊎_elim}
use mathlib.Core.Bool.{Bool, true, false, cond, ◌&&◌, true≢false}
use mathlib.Core.List.Memᴰ
use mathlib.Core.List.{List, [], ◌∷◌, ◌++◌, map, Memᴰ}
use lib.ListN.{length}
use native.Mathlib.Omega.{arith}
use native.Mathlib.Decide.{dec_lt}
use Rattle.base.specs.Lists.{all, keep, spread, from, leading}
use Rattle.base.proofs.Lists.{both_left, both_right}

-- ── what a test keeps ──

module _ {A : Type 0} where
  pub keep_at : (p : A → Bool) (xs : List A) {x : A} → Memᴰ x (keep p xs) → Memᴰ x xs × (p x ≡ true)
  unfolding keep
  keep_at p [] {x = x} h = elim h [ ]
  keep_at p (y ∷ ys) {x} h = go (p y) refl h (λ g. keep_at p ys g)
    where
      go : (b : Bool) → p y ≡ b → Memᴰ x (cond b (y ∷ keep p ys) (keep p ys)) → (Memᴰ x (keep p ys) → Memᴰ x ys × (p x ≡ true)) → Memᴰ x (y ∷ ys) × (p x ≡ true)
      go true e (Memᴰ.head q) r = (Memᴰ.head q, ap p q ∙ e)
      go true e (Memᴰ.tail h) r = let s = r h in (Memᴰ.tail s.0, s.1)
      go false e h r = let s = r h in (Memᴰ.tail s.0, s.1)

  pub keep-has : (p : A → Bool) (xs : List A) {x : A} → Memᴰ x xs → p x ≡ true → Memᴰ x (keep p xs)
  unfolding keep
  keep-has p (y ∷ ys) (Memᴰ.head q) e = rw (← ap p q, e) (Memᴰ.head q)
  keep-has p [] {x = x} x4 e = elim x4 [ ]
  keep-has p (y ∷ ys) {x} (Memᴰ.tail h) e = go (p y) (keep-has p ys h e)
    where
      go : (b : Bool) → Memᴰ x (keep p ys) → Memᴰ x (cond b (y ∷ keep p ys) (keep p ys))
      go true h = Memᴰ.tail h
      go false h = h

  -- keeping by a weaker test first changes nothing
  pub keep-keep : (p q : A → Bool) → ((x : A) → p x ≡ true → q x ≡ true) → (xs : List A) → keep p (keep q xs) ≡ keep p xs
  unfolding keep
  keep-keep p q f [] = refl
  keep-keep p q f (x ∷ xs) = go (p x) (q x) refl refl (keep-keep p q f xs)
    where
      go : (a b : Bool) → p x ≡ a → q x ≡ b → keep p (keep q xs) ≡ keep p xs → keep p (cond b (x ∷ keep q xs) (keep q xs)) ≡ cond a (x ∷ keep p xs) (keep p xs)
      go true true g h e = rw g (ap (λ l. x ∷ l) e)
      go true false g h e = absurd (true≢false (sym (f x g) ∙ h))
      go false true g h e = rw g e
      go false false g h e = e

  pub keep_all : (p : A → Bool) (xs : List A) → all p xs ≡ true → keep p xs ≡ xs
  unfolding keep
  keep_all p [] e = refl
  keep_all p (x ∷ xs) e = rw (both_left (p x) (all p xs) e) (ap (λ l. x ∷ l) (keep_all p xs (both_right (p x) (all p xs) e)))

  pub keep-none : (p : A → Bool) (xs : List A) → ((x : A) → Memᴰ x xs → p x ≡ false) → keep p xs ≡ []
  unfolding keep
  keep-none p [] f = refl
  keep-none p (x ∷ xs) f = rw (f x (Memᴰ.head refl)) (keep-none p xs (λ y h. f y (Memᴰ.tail h)))

-- two tests that agree on the list keep the same of it
pub keep_same : {A : Type 0} (p q : A → Bool) (xs : List A) → ((x : A) → Memᴰ x xs → p x ≡ q x) → keep p xs ≡ keep q xs
unfolding keep
keep_same p q [] f = refl
keep_same p q (x ∷ xs) f = ap₂ (λ b l. cond b (x ∷ l) l) (f x (Memᴰ.head refl)) (keep_same p q xs (λ y h. f y (Memᴰ.tail h)))

pub all_map : {A B : Type 0} (p : B → Bool) (f : A → B) (xs : List A) → all p (map f xs) ≡ all (λ x. p (f x)) xs
all_map p f [] = refl
all_map p f (x ∷ xs) = ap (λ b. p (f x) && b) (all_map p f xs)

-- ── tests over lists laid end to end, and what leads ──

module _ {A : Type 0} (p : A → Bool) where
  pub all_both : (xs ys : List A) → all p xs ≡ true → all p ys ≡ true → all p (xs ++ ys) ≡ true
  all_both [] ys e g = g
  all_both (x ∷ xs) ys e g = rw (both_left (p x) (all p xs) e, all_both xs ys (both_right (p x) (all p xs) e) g)

  pub all_left : (xs ys : List A) → all p (xs ++ ys) ≡ true → all p xs ≡ true
  all_left [] ys e = refl
  all_left (x ∷ xs) ys e = rw (both_left (p x) _ e, all_left xs ys (both_right (p x) _ e))

  pub all_right : (xs ys : List A) → all p (xs ++ ys) ≡ true → all p ys ≡ true
  all_right [] ys e = e
  all_right (x ∷ xs) ys e = all_right xs ys (both_right (p x) _ e)

  pub leading-all : (xs : List A) → all p (leading p xs) ≡ true
  leading-all [] = refl
  leading-all (x ∷ xs) = go (p x) refl (leading-all xs)
    where
      go : (b : Bool) → p x ≡ b → all p (leading p xs) ≡ true → all p (cond b (x ∷ leading p xs) []) ≡ true
      go true e r = rw (e, r)
      go false e r = refl

  pub leading-short : (xs : List A) → length (leading p xs) ≤ length xs
  leading-short [] = omega arith
  leading-short (x ∷ xs) = go (p x) (leading-short xs)
    where
      go : (b : Bool) → length (leading p xs) ≤ length xs → length (cond b (x ∷ leading p xs) []) ≤ suc (length xs)
      go true r = omega arith
      go false r = omega arith

  pub leading_in : (xs : List A) {x : A} → Memᴰ x (leading p xs) → Memᴰ x xs
  leading_in [] h = h
  leading_in (y ∷ ys) {x} h = go (p y) h (λ g. leading_in ys g)
    where
      go : (b : Bool) → Memᴰ x (cond b (y ∷ leading p ys) []) → (Memᴰ x (leading p ys) → Memᴰ x ys) → Memᴰ x (y ∷ ys)
      go true (Memᴰ.head q) r = Memᴰ.head q
      go true (Memᴰ.tail g) r = Memᴰ.tail (r g)
      go false h r = absurd (Memᴰ.not-nil h)

-- ── maps and lists laid end to end ──

module _ {A B : Type 0} where
  pub map_at : (f : A → B) (xs : List A) {y : B} → Memᴰ y (map f xs) → (x : A) × Memᴰ x xs × (y ≡ f x)
  map_at f (x ∷ xs) (Memᴰ.head q) = (x, Memᴰ.head refl, q)
  map_at f [] {y = y} x' = elim x' [ ]
  map_at f (x ∷ xs) (Memᴰ.tail h) = let r = map_at f xs h in (r.0, Memᴰ.tail r.1, r.2)

  pub map-has : (f : A → B) (xs : List A) {x : A} → Memᴰ x xs → Memᴰ (f x) (map f xs)
  map-has f (y ∷ ys) (Memᴰ.head q) = Memᴰ.head (ap f q)
  map-has f [] x3 = elim x3 [ ]
  map-has f (y ∷ ys) (Memᴰ.tail h) = Memᴰ.tail (map-has f ys h)

  pub spread_at : (f : A → List B) (xs : List A) {y : B} → Memᴰ y (spread f xs) → (x : A) × Memᴰ x xs × Memᴰ y (f x)
  unfolding spread
  spread_at f [] {y = y} h = elim h [ ]
  spread_at f (x ∷ xs) {y} h = ⊎_elim (λ g. (x, Memᴰ.head refl, g)) (λ g. let r = spread_at f xs g in (r.0, Memᴰ.tail r.1, r.2)) (Memᴰ.append_cases (f x) h)

  pub spread-has : (f : A → List B) (xs : List A) {x : A} {y : B} → Memᴰ x xs → Memᴰ y (f x) → Memᴰ y (spread f xs)
  unfolding spread
  spread-has f (z ∷ zs) {x} {y} (Memᴰ.head q) g = Memᴰ.append_left (spread f zs) (subst (λ w. Memᴰ y (f w)) q g)
  spread-has f [] {x = x} {y = y} x4 g = elim x4 [ ]
  spread-has f (z ∷ zs) (Memᴰ.tail h) g = Memᴰ.append_right (f z) (spread-has f zs h g)

-- ── numbers ──

pub from_at : (i k : ℕ) {v : ℕ} → Memᴰ v (from i k) → (i ≤ v) × (v < i + k)
from_at i (suc k) (Memᴰ.head q) = (omega arith, omega arith)
from_at i zero {v = v} x' = elim x' [ ]
from_at i (suc k) (Memᴰ.tail h) = let r = from_at (suc i) k h in (omega arith, omega arith)

pub from-has : (i k v : ℕ) → i ≤ v → v < i + k → Memᴰ v (from i k)
from-has i zero v g h = absurd (let z : ⊥ = omega arith in z)
from-has i (suc k) v g h = elim (dec_lt i v) [ yes p ↦ Memᴰ.tail (from-has (suc i) k v p (omega arith)) | no p ↦ Memᴰ.head (let q : v ≡ i = omega arith in q) ]

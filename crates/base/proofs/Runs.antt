-- Lists that grow at their end: maps, filters and spreads over a run of numbers. Assumes nothing.
use mathlib.Core.Path.{◌≡◌, refl, sym, ◌∙◌, ap}
use mathlib.Core.Bool.{Bool, true, false, cond, ◌||◌, or-false, or_assoc}
use mathlib.Core.List.{List, [], ◌∷◌, ◌++◌, map, append_assoc, append-nil, Memᴰ}
use Prim.Native.Nat.{ℕ, zero, suc, ◌+◌, ◌≤◌, ◌<◌}
use native.Mathlib.Nat.{zero-add, add-zero, suc-add, add-suc}
use native.Mathlib.Numerals.{add-one}
use native.Mathlib.Omega.{arith}
use lib.ListN.{length, get_or, take}
use lib.Seq.{take-suc}
use Rattle.base.specs.Lists.{any, keep, spread, from, up_to}

module _ {A B : Type 0} where
  pub spread-append : (f : A → List B) (xs ys : List A) → spread f (xs ++ ys) ≡ spread f xs ++ spread f ys
  unfolding spread
  spread-append f [] ys = refl
  spread-append f (x ∷ xs) ys = ap (λ l. f x ++ l) (spread-append f xs ys) ∙ sym (append_assoc (f x) (spread f xs) (spread f ys))

  -- one element more
  pub spread_snoc : (f : A → List B) (xs : List A) (x : A) → spread f (xs ++ x ∷ []) ≡ spread f xs ++ f x
  unfolding spread
  spread_snoc f xs x = spread-append f xs (x ∷ []) ∙ ap (λ l. spread f xs ++ l) (append-nil (f x))

  pub spread-more : (f : A → List B) (d : A) (xs : List A) (i : ℕ) → i < length xs → spread f (take (i + 1) xs) ≡ spread f (take i xs) ++ f (get_or xs i d)
  spread-more f d xs i h = ap (spread f) (rw (add-one, take-suc xs i d)) ∙ spread_snoc f (take i xs) (get_or xs i d)

  pub map-append : (f : A → B) (xs ys : List A) → map f (xs ++ ys) ≡ map f xs ++ map f ys
  map-append f [] ys = refl
  map-append f (x ∷ xs) ys = ap (λ l. f x ∷ l) (map-append f xs ys)

  pub any-map : (p : B → Bool) (f : A → B) (xs : List A) → any p (map f xs) ≡ any (λ x. p (f x)) xs
  any-map p f [] = refl
  any-map p f (x ∷ xs) = ap (λ t. p (f x) || t) (any-map p f xs)

pub any_snoc : {A : Type 0} (p : A → Bool) (xs : List A) (x : A) → any p (xs ++ x ∷ []) ≡ (any p xs || p x)
any_snoc p [] x = or-false (p x)
any_snoc p (y ∷ ys) x = ap (λ t. p y || t) (any_snoc p ys x) ∙ sym (or_assoc (p y) (any p ys) (p x))

pub from-add : (i a b : ℕ) → from i (a + b) ≡ from i a ++ from (i + a) b
from-add i zero b = rw (zero-add, add-zero)
from-add i (suc a) b = rw (suc-add, add-suc) (ap (λ l. i ∷ l) (rw (from-add (suc i) a b, suc-add)))

-- one number more
pub up_to-more : (u : ℕ) → up_to (u + 1) ≡ up_to u ++ u ∷ []
up_to-more u = from-add 0 u 1 ∙ ap (λ k. up_to u ++ k ∷ []) (zero-add u)

-- and the piece that it gives
pub spread-up : {B : Type 0} (f : ℕ → List B) (u : ℕ) → spread f (up_to (u + 1)) ≡ spread f (up_to u) ++ f u
spread-up f u = ap (spread f) (up_to-more u) ∙ spread_snoc f (up_to u) u

-- two tests that agree on a run keep the same
pub keep_same : (p q : ℕ → Bool) (i k : ℕ) → ((x : ℕ) → x < i + k → p x ≡ q x) → keep p (from i k) ≡ keep q (from i k)
unfolding keep
keep_same p q i zero h = refl
keep_same p q i (suc k) h = rw (h i (omega arith), keep_same p q (suc i) k (λ x l. h x (omega arith)))

-- what is in a list stands at some place of it
pub place_of : {x : ℕ} (xs : List ℕ) → Memᴰ x xs → (i : ℕ) × (i < length xs) × (get_or xs i 0 ≡ x)
place_of (y ∷ ys) (Memᴰ.head q) = (0, omega arith, sym q)
place_of [] x'' = elim x'' [ ]
place_of (y ∷ ys) (Memᴰ.tail h) = let r = place_of ys h in (suc r.0, omega (arith, r.1), r.2)

-- a test keeps of a run numbers that rise
kept_from : (p : ℕ → Bool) (a k j : ℕ) → j < length (keep p (from a k)) → a ≤ get_or (keep p (from a k)) j 0
unfolding keep
kept_from p a zero j h = absurd (omega arith)
kept_from p a (suc k) j h = go (p a) j h (λ i. kept_from p (suc a) k i)
  where
    go : (b : Bool) (j : ℕ) → j < length (cond b (a ∷ keep p (from (suc a) k)) (keep p (from (suc a) k))) → ((i : ℕ) → i < length (keep p (from (suc a) k)) → suc a ≤ get_or (keep p (from (suc a) k)) i 0) → a ≤ get_or (cond b (a ∷ keep p (from (suc a) k)) (keep p (from (suc a) k))) j 0
    go true zero h r = omega arith
    go true (suc j) h r = omega (arith, r j (omega arith))
    go false j h r = omega (arith, r j h)

pub kept-rises : (p : ℕ → Bool) (a k i j : ℕ) → i < j → j < length (keep p (from a k)) → get_or (keep p (from a k)) i 0 < get_or (keep p (from a k)) j 0
unfolding keep
kept-rises p a zero i j l h = absurd (omega arith)
kept-rises p a (suc k) i j l h = go (p a) i j l h (λ u v. kept-rises p (suc a) k u v) (λ v. kept_from p (suc a) k v)
  where
    go : (b : Bool) (i j : ℕ) → i < j → j < length (cond b (a ∷ keep p (from (suc a) k)) (keep p (from (suc a) k)))
        → ((u v : ℕ) → u < v → v < length (keep p (from (suc a) k)) → get_or (keep p (from (suc a) k)) u 0 < get_or (keep p (from (suc a) k)) v 0)
        → ((v : ℕ) → v < length (keep p (from (suc a) k)) → suc a ≤ get_or (keep p (from (suc a) k)) v 0)
        → get_or (cond b (a ∷ keep p (from (suc a) k)) (keep p (from (suc a) k))) i 0 < get_or (cond b (a ∷ keep p (from (suc a) k)) (keep p (from (suc a) k))) j 0
    go true zero zero l h r w = absurd (omega arith)
    go true zero (suc j) l h r w = omega (arith, w j (omega arith))
    go true (suc i) zero l h r w = absurd (omega arith)
    go true (suc i) (suc j) l h r w = r i j (omega arith) (omega arith)
    go false i j l h r w = r i j l h

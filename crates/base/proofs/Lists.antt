-- Laws of the tests over lists of `specs/Lists.antt`.
-- Assumes nothing.
use mathlib.Core.Path.{◌≡◌, refl, ◌∙◌, ap, fun_ext}
use mathlib.Core.Bool.{Bool, true, false, cond, ◌&&◌, ◌||◌, false≢true}
use mathlib.Core.List.{List, [], ◌∷◌, ◌++◌, map, Memᴰ}
use Rattle.base.specs.Lists.{all, any, keep, spread}

pub both_left : (a b : Bool) → (a && b) ≡ true → a ≡ true
both_left true b e = refl
both_left false b e = e

pub both_right : (a b : Bool) → (a && b) ≡ true → b ≡ true
both_right true b e = e
both_right false b e = cc

-- a test that fails where another does, since it is the stronger
pub fails : (a b : Bool) → (a ≡ true → b ≡ true) → b ≡ false → a ≡ false
fails true b f e = let g : b ≡ true = f refl in cc
fails false b f e = refl

module _ {A : Type 0} (p : A → Bool) where
  pub keep_append : (xs ys : List A) → keep p (xs ++ ys) ≡ keep p xs ++ keep p ys
  unfolding keep spread
  keep_append [] ys = refl
  keep_append (x ∷ xs) ys = go (p x) (keep_append xs ys)
    where
      go : (b : Bool) → keep p (xs ++ ys) ≡ keep p xs ++ keep p ys → cond b (x ∷ keep p (xs ++ ys)) (keep p (xs ++ ys)) ≡ cond b (x ∷ keep p xs) (keep p xs) ++ keep p ys
      go true e = ap (λ l. x ∷ l) e
      go false e = e

  pub all-at : (xs : List A) → all p xs ≡ true → {x : A} → Memᴰ x xs → p x ≡ true
  all-at (y ∷ ys) e (Memᴰ.head q) = ap p q ∙ both_left (p y) (all p ys) e
  all-at [] e x4 = elim x4 [ ]
  all-at (y ∷ ys) e (Memᴰ.tail h) = all-at ys (both_right (p y) (all p ys) e) h

  pub all_from : (xs : List A) → ((x : A) → Memᴰ x xs → p x ≡ true) → all p xs ≡ true
  all_from [] f = refl
  all_from (x ∷ xs) f = rw (f x (Memᴰ.head refl), all_from xs (λ y h. f y (Memᴰ.tail h)))

  pub any_at : (xs : List A) → any p xs ≡ true → (x : A) × Memᴰ x xs × (p x ≡ true)
  any_at [] e = absurd (false≢true e)
  any_at (x ∷ xs) e = go (p x) refl e (any_at xs)
    where
      go : (b : Bool) → p x ≡ b → (b || any p xs) ≡ true → (any p xs ≡ true → (y : A) × Memᴰ y xs × (p y ≡ true)) → (y : A) × Memᴰ y (x ∷ xs) × (p y ≡ true)
      go true q e r = (x, Memᴰ.head refl, q)
      go false q e r = let h = r e in (h.0, Memᴰ.tail h.1, h.2)

module _ {A B : Type 0} where
  pub keep-map : (p : B → Bool) (f : A → B) (xs : List A) → keep p (map f xs) ≡ map f (keep (λ x. p (f x)) xs)
  unfolding keep spread
  keep-map p f [] = refl
  keep-map p f (x ∷ xs) = go (p (f x)) (keep (λ x. p (f x)) xs) (keep-map p f xs)
    where
      go : (b : Bool) {l : List B} (k : List A) → l ≡ map f k → cond b (f x ∷ l) l ≡ map f (cond b (x ∷ k) k)
      go true k e = ap (λ l. f x ∷ l) e
      go false k e = e

  pub keep-spread : (p : B → Bool) (f : A → List B) (xs : List A) → keep p (spread f xs) ≡ spread (λ x. keep p (f x)) xs
  unfolding keep spread
  keep-spread p f [] = refl
  keep-spread p f (x ∷ xs) = keep_append p (f x) (spread f xs) ∙ ap (λ l. keep p (f x) ++ l) (keep-spread p f xs)

  pub spread-keep : (f : A → List B) (q : A → Bool) (xs : List A) → spread f (keep q xs) ≡ spread (λ x. cond (q x) (f x) []) xs
  unfolding keep spread
  spread-keep f q [] = refl
  spread-keep f q (x ∷ xs) = go (q x) (keep q xs) (spread-keep f q xs)
    where
      go : (b : Bool) (k : List A) {l : List B} → spread f k ≡ l → spread f (cond b (x ∷ k) k) ≡ cond b (f x) [] ++ l
      go true k e = ap (λ l. f x ++ l) e
      go false k e = e

  pub spread_ext : {f g : A → List B} (xs : List A) → ((x : A) → f x ≡ g x) → spread f xs ≡ spread g xs
  unfolding keep spread
  spread_ext xs e = ap (λ h. spread h xs) (fun_ext e)

  pub spread_none : (xs : List A) → spread {B = B} (λ x. []) xs ≡ []
  unfolding keep spread
  spread_none [] = refl
  spread_none (x ∷ xs) = spread_none xs

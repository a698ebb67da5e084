-- The least of some lists of one length: it is one of them, and none is before it. Numbers put in rising order.
-- Assumes nothing.
use Prim.Native.Nat.{ℕ, suc, ◌≤◌}
use mathlib.Core.Path.{◌≡◌, refl, sym, ◌∙◌, ap}
use mathlib.Core.Logic.{⊎_elim}
use mathlib.Core.Bool.{Bool, true, false, cond, true≢false}
use mathlib.Core.List.Memᴰ
use mathlib.Core.List.{List, [], ◌∷◌, Memᴰ}
use native.Mathlib.Omega.{arith}
use borrow.Author.Tests.{ltb-true, ltb-false, leb-true, le-leb}
use lib.Dec.{ltb, leb}
use lib.ListN.{length, get_or}
use Rattle.base.specs.Lists.{all, count}
use Rattle.base.proofs.Lists.{both_left, both_right}
use Rattle.portions.specs.Portions.{before, rises}
use Rattle.portions.proofs.Order.{before_irrefl, before_trans, before-total}
use Rattle.reasons.specs.Reason.{insert, rising, least_from}

-- ---- the order

either : (b : Bool) → (b ≡ true → ⊥) → b ≡ false
either true f = absurd (f refl)
either false f = refl

asymmetric : (x y : List ℕ) → before x y ≡ true → before y x ≡ false
asymmetric x y e = either (before y x) (λ f. true≢false (sym (before_trans x y x e f) ∙ before_irrefl x))

-- of lists of one length
not_through : (x y z : List ℕ) → length y ≡ length z → before x y ≡ false → before y z ≡ false → before x z ≡ false
not_through x y z l e f =
    either (before x z) (λ b.
    ⊎_elim
    (λ h. true≢false (sym h ∙ f))
    (λ h. ⊎_elim
    (λ h. true≢false (sym (before_trans x z y b h) ∙ e))
    (λ h. true≢false (sym b ∙ ap (before x) (sym h) ∙ e))
    h)
    (before-total y z l))

-- ---- the least

-- x is among the lists, and none of them is before it
pub record Lowest (x : List ℕ) (xs : List (List ℕ)) : Type 0 where
  pub is : Memᴰ x xs
  pub least : (y : List ℕ) → Memᴰ y xs → before y x ≡ false

module _ (k : ℕ) where
  -- lists of this length
  abbrev Long : List (List ℕ) → Type 0
  Long xs = (y : List ℕ) → Memᴰ y xs → length y ≡ suc k

  more : {x : List ℕ} {xs : List (List ℕ)} → length x ≡ suc k → Long xs → Long (x ∷ xs)
  more l f y (Memᴰ.head q) = ap length q ∙ l
  more l f y (Memᴰ.tail h) = f y h

  -- y is before x, and the least of y and the others is known; or y is not before x
  taken : (x y : List ℕ) (ys : List (List ℕ)) → Long (y ∷ ys) → before y x ≡ true → Lowest (least_from y ys) (y ∷ ys) → Lowest (least_from y ys) (x ∷ y ∷ ys)
  taken x y ys f e w = record { is = Memᴰ.tail w.is; least = λ v h. at_each v h }
    where
      at_each : (v : List ℕ) → Memᴰ v (x ∷ y ∷ ys) → before v (least_from y ys) ≡ false
      at_each v (Memᴰ.head q) =
          ap (λ u. before u (least_from y ys)) q
          ∙ not_through x y (least_from y ys) (f y (Memᴰ.head refl) ∙ sym (f (least_from y ys) w.is)) (asymmetric y x e) (w.least y (Memᴰ.head refl))
      at_each v (Memᴰ.tail h) = w.least v h

  kept : (x y : List ℕ) (ys : List (List ℕ)) → length x ≡ suc k → Long (y ∷ ys) → before y x ≡ false → Lowest (least_from x ys) (x ∷ ys) → Lowest (least_from x ys) (x ∷ y ∷ ys)
  kept x y ys l f e w = record { is = wider w.is; least = λ v h. at_each v h }
    where
      wider : {v : List ℕ} → Memᴰ v (x ∷ ys) → Memᴰ v (x ∷ y ∷ ys)
      wider (Memᴰ.head q) = Memᴰ.head q
      wider (Memᴰ.tail h) = Memᴰ.tail (Memᴰ.tail h)

      at_each : (v : List ℕ) → Memᴰ v (x ∷ y ∷ ys) → before v (least_from x ys) ≡ false
      at_each v (Memᴰ.head q) = w.least v (Memᴰ.head q)
      at_each v (Memᴰ.tail (Memᴰ.head q)) =
          ap (λ u. before u (least_from x ys)) q
          ∙ not_through y x (least_from x ys) (l ∙ sym (more l (λ u g. f u (Memᴰ.tail g)) (least_from x ys) w.is)) e (w.least x (Memᴰ.head refl))
      at_each v (Memᴰ.tail (Memᴰ.tail h)) = w.least v (Memᴰ.tail h)

  least-from : (x : List ℕ) (xs : List (List ℕ)) → length x ≡ suc k → Long xs → Lowest (least_from x xs) (x ∷ xs)
  least-from x [] l f = record { is = Memᴰ.head refl; least = λ y h. ap (λ z. before z x) (Memᴰ.eq_of_singleton h) ∙ before_irrefl x }
  least-from [] (y ∷ ys) l f = absurd (let z : ⊥ = omega arith in z)
  least-from (a ∷ r) (y ∷ ys) l f = go (before y (a ∷ r)) refl (λ z h. least-from z ys h (λ w g. f w (Memᴰ.tail g)))
    where
      go : (b : Bool) → before y (a ∷ r) ≡ b → ((z : List ℕ) → length z ≡ suc k → Lowest (least_from z ys) (z ∷ ys)) → Lowest (least_from (cond b y (a ∷ r)) ys) ((a ∷ r) ∷ y ∷ ys)
      go true e g = taken (a ∷ r) y ys f e (g y (f y (Memᴰ.head refl)))
      go false e g = kept (a ∷ r) y ys l f e (g (a ∷ r) l)

  -- of any lists that are not none
  pub lowest : (xs : List (List ℕ)) {x : List ℕ} → Memᴰ x xs → Long xs → Lowest (least_from [] xs) xs
  lowest [] h f = absurd (Memᴰ.not-nil h)
  lowest (y ∷ ys) h f = least-from y ys (f y (Memᴰ.head refl)) (λ w g. f w (Memᴰ.tail g))

-- ---- three numbers rising

length-insert : (x : ℕ) (ys : List ℕ) → length (insert x ys) ≡ suc (length ys)
length-insert x [] = refl
length-insert x (y ∷ ys) = go (ltb y x) (length-insert x ys)
  where
    go : (b : Bool) → length (insert x ys) ≡ suc (length ys) → length (cond b (y ∷ insert x ys) (x ∷ y ∷ ys)) ≡ suc (suc (length ys))
    go true e = ap suc e
    go false e = refl

pub length-rising : (xs : List ℕ) → length (rising xs) ≡ length xs
length-rising [] = refl
length-rising (x ∷ xs) = length-insert x (rising xs) ∙ ap suc (length-rising xs)

pub three : (xs : List ℕ) → length xs ≡ 3 → get_or xs 0 0 ∷ get_or xs 1 0 ∷ get_or xs 2 0 ∷ [] ≡ xs
three (a ∷ b ∷ c ∷ []) e = refl
three [] e = absurd (let z : ⊥ = omega arith in z)
three (a ∷ []) e = absurd (let z : ⊥ = omega arith in z)
three (a ∷ b ∷ []) e = absurd (let z : ⊥ = omega arith in z)
three (a ∷ b ∷ c ∷ d ∷ xs) e = absurd (let z : ⊥ = omega arith in z)

-- the same numbers: every test counts them alike
module _ (p : ℕ → Bool) where
  count-insert : (x : ℕ) (ys : List ℕ) → count p (insert x ys) ≡ count p (x ∷ ys)
  count-insert x [] = refl
  count-insert x (y ∷ ys) = go (ltb y x) (count-insert x ys)
    where
      swap : (a b : Bool) (n : ℕ) → cond a (suc (cond b (suc n) n)) (cond b (suc n) n) ≡ cond b (suc (cond a (suc n) n)) (cond a (suc n) n)
      swap true true n = refl
      swap true false n = refl
      swap false true n = refl
      swap false false n = refl

      go : (b : Bool) → count p (insert x ys) ≡ count p (x ∷ ys) → count p (cond b (y ∷ insert x ys) (x ∷ y ∷ ys)) ≡ count p (x ∷ y ∷ ys)
      go true e = ap (λ r. cond (p y) (suc r) r) e ∙ swap (p y) (p x) (count p ys)
      go false e = refl

  pub count-rising : (xs : List ℕ) → count p (rising xs) ≡ count p xs
  count-rising [] = refl
  count-rising (x ∷ xs) = count-insert x (rising xs) ∙ ap (λ r. cond (p x) (suc r) r) (count-rising xs)

  all_insert : (x : ℕ) (ys : List ℕ) → p x ≡ true → all p ys ≡ true → all p (insert x ys) ≡ true
  all_insert x [] e f = rw e
  all_insert x (y ∷ ys) e f = go (ltb y x) (all_insert x ys e (both_right (p y) _ f))
    where
      go : (b : Bool) → all p (insert x ys) ≡ true → all p (cond b (y ∷ insert x ys) (x ∷ y ∷ ys)) ≡ true
      go true g = rw (both_left (p y) _ f, g)
      go false g = rw (e, both_left (p y) _ f, both_right (p y) _ f)

leb-all : (x y : ℕ) → x ≤ y → (ys : List ℕ) → all (leb y) ys ≡ true → all (leb x) ys ≡ true
leb-all x y h [] e = refl
leb-all x y h (z ∷ zs) e =
    let g = leb-true y z (both_left (leb y z) _ e) in
    rw (le-leb x z (omega arith), leb-all x y h zs (both_right (leb y z) _ e))

insert-rising : (x : ℕ) (ys : List ℕ) → rises leb ys ≡ true → rises leb (insert x ys) ≡ true
unfolding rises
insert-rising x [] e = refl
insert-rising x (y ∷ ys) e = go (ltb y x) refl (insert-rising x ys (both_right (all (leb y) ys) _ e))
  where
    go : (b : Bool) → ltb y x ≡ b → rises leb (insert x ys) ≡ true → rises leb (cond b (y ∷ insert x ys) (x ∷ y ∷ ys)) ≡ true
    go true t r = let h = ltb-true y x t in rw (all_insert (leb y) x ys (le-leb y x (omega arith)) (both_left (all (leb y) ys) _ e), r)
    go false t r = let h = ltb-false y x t in rw (le-leb x y h, leb-all x y h ys (both_left (all (leb y) ys) _ e), both_left (all (leb y) ys) _ e, both_right (all (leb y) ys) _ e)

pub rising-rises : (xs : List ℕ) → rises leb (rising xs) ≡ true
unfolding rises
rising-rises [] = refl
rising-rises (x ∷ xs) = insert-rising x (rising xs) (rising-rises xs)

-- The first row that fails: it fails and all before it pass, and there is none exactly where all rows pass.
-- Assumes nothing.
use Prim.Native.Nat.{ℕ, suc, ◌+◌, ◌≤◌, ◌<◌}
use mathlib.Core.Path.{◌≡◌, refl, sym, ◌∙◌, ap, ap₂}
use mathlib.Core.Bool.{Bool, true, false, cond, ◌&&◌, true≢false}
use mathlib.Core.List.{List, [], ◌∷◌, ◌++◌, map}
use native.Mathlib.Omega.{arith}
use borrow.Author.Tests.{eq-eqb, ne_eqb}
use lib.Dec.{eqb}
use lib.ListN.{length, length-map}
use Rattle.base.specs.Lists.{all, up_to}
use Rattle.base.proofs.Lists.{both_left, both_right}
use Rattle.base.proofs.Loop.{rest, rest-start, rest-next, rest_end, length_up}
use Rattle.reasons.specs.First.{first_fail, FirstFails}
use Rattle.reasons.specs.Reason.{Face, triangle, quad, faces_by}

module _ {A : Type 0} (p : A → Bool) where
  pub first-fails : (xs : List A) → all p xs ≡ false → FirstFails p xs (first_fail p xs)
  first-fails [] e = absurd (true≢false e)
  first-fails (x ∷ xs) e = go (p x) refl e (first-fails xs)
    where
      go : (b : Bool) → p x ≡ b → (b && all p xs) ≡ false → (all p xs ≡ false → FirstFails p xs (first_fail p xs)) → FirstFails p (x ∷ xs) (cond b (suc (first_fail p xs)) 0)
      go true q e r =
          let w = r e in
          record { before = x ∷ w.before; row = w.row; after = w.after; table = ap (λ l. x ∷ l) w.table; place = ap suc w.place; passes = rw (q, w.passes); fails = w.fails }
      go false q e r = record { before = []; row = x; after = xs; table = refl; place = refl; passes = refl; fails = q }

  pub none-fails : (xs : List A) → all p xs ≡ true → first_fail p xs ≡ length xs
  none-fails [] e = refl
  none-fails (x ∷ xs) e = rw (both_left (p x) _ e, none-fails xs (both_right (p x) _ e))

  pub fails-below : (xs : List A) → all p xs ≡ false → first_fail p xs < length xs
  fails-below [] e = absurd (true≢false e)
  fails-below (x ∷ xs) e = go (p x) e (fails-below xs)
    where
      go : (b : Bool) → (b && all p xs) ≡ false → (all p xs ≡ false → first_fail p xs < length xs) → cond b (suc (first_fail p xs)) 0 < suc (length xs)
      go true e r = let h = r e in omega arith
      go false e r = omega arith

  pub fail_low : (xs : List A) → first_fail p xs ≤ length xs
  fail_low [] = omega arith
  fail_low (x ∷ xs) = go (p x) (fail_low xs)
    where
      go : (b : Bool) → first_fail p xs ≤ length xs → cond b (suc (first_fail p xs)) 0 ≤ suc (length xs)
      go true h = omega arith
      go false h = omega arith

  pub past-passes : (xs : List A) → first_fail p xs ≡ length xs → all p xs ≡ true
  past-passes xs e = go (all p xs) refl
    where
      go : (b : Bool) → all p xs ≡ b → b ≡ true
      go true q = refl
      go false q = absurd (let h = fails-below xs q in let z : ⊥ = omega arith in z)

  -- of two tables end to end
  pub fail_left : (xs ys : List A) → first_fail p xs < length xs → first_fail p (xs ++ ys) ≡ first_fail p xs
  fail_left [] ys h = absurd (let z : ⊥ = omega arith in z)
  fail_left (x ∷ xs) ys h = go (p x) h (fail_left xs ys)
    where
      go : (b : Bool) → cond b (suc (first_fail p xs)) 0 < suc (length xs) → (first_fail p xs < length xs → first_fail p (xs ++ ys) ≡ first_fail p xs) → cond b (suc (first_fail p (xs ++ ys))) 0 ≡ cond b (suc (first_fail p xs)) 0
      go true h r = ap suc (r (omega arith))
      go false h r = refl

  pub fail_right : (xs ys : List A) → length xs ≤ first_fail p xs → first_fail p (xs ++ ys) ≡ first_fail p xs + first_fail p ys
  fail_right [] ys h = omega arith
  fail_right (x ∷ xs) ys h = go (p x) h (fail_right xs ys)
    where
      go : (b : Bool) → suc (length xs) ≤ cond b (suc (first_fail p xs)) 0 → (length xs ≤ first_fail p xs → first_fail p (xs ++ ys) ≡ first_fail p xs + first_fail p ys) → cond b (suc (first_fail p (xs ++ ys))) 0 ≡ cond b (suc (first_fail p xs)) 0 + first_fail p ys
      go true h r = let e = r (omega arith) in omega arith
      go false h r = absurd (let z : ⊥ = omega arith in z)

pub fail_map : {A B : Type 0} (p : B → Bool) (f : A → B) (xs : List A) → first_fail p (map f xs) ≡ first_fail (λ x. p (f x)) xs
fail_map p f [] = refl
fail_map p f (x ∷ xs) = ap (λ r. cond (p (f x)) (suc r) 0) (fail_map p f xs)

-- a loop that looks for it
module _ {A : Type 0} (p : A → Bool) (f : ℕ → A) (n : ℕ) where
  pub record FailUp (i : ℕ) : Type 0 where
    pub low : i ≤ n
    pub same : first_fail p (map f (up_to n)) ≡ i + first_fail p (map f (rest i n))

module _ {A : Type 0} {p : A → Bool} {f : ℕ → A} {n : ℕ} where
  pub fail_start : FailUp p f n 0
  fail_start = record { low = omega arith; same = rw (rest-start n) (omega arith) }

  pub fail_next : {i : ℕ} → FailUp p f n i → i < n → p (f i) ≡ true → FailUp p f n (i + 1)
  fail_next {i} a h t = record { low = omega arith; same = a.same ∙ rw (rest-next i n h, t) (omega arith) }

  pub fail_found : {i : ℕ} → FailUp p f n i → i < n → p (f i) ≡ false → i ≡ first_fail p (map f (up_to n))
  fail_found {i} a h t = sym (a.same ∙ rw (rest-next i n h, t) (omega arith))

  pub fail_done : {i : ℕ} → FailUp p f n i → n ≤ i → i ≡ first_fail p (map f (up_to n))
  fail_done {i} a h = sym (a.same ∙ rw (rest_end i n h) (omega arith))

-- a row's number is small
pub fail_few : {A : Type 0} (p : A → Bool) (f : ℕ → A) (n : ℕ) {i : ℕ} → i ≡ first_fail p (map f (up_to n)) → i ≤ n
fail_few p f n e = omega (arith, e, fail_low p (map f (up_to n)), length_up f n)

-- of a template's faces, triangles first
module _ (p : Face → Bool) (ts qs : List (List ℕ)) {i : ℕ} (e : i ≡ first_fail (λ ks. p (triangle ks)) ts) where
  side_left : first_fail p (map triangle ts) ≡ i
  side_left = fail_map p triangle ts ∙ sym e

  pub face_left : i < length ts → i ≡ first_fail p (faces_by ts qs)
  face_left h = sym (fail_left p (map triangle ts) (map quad qs) (omega (arith, side_left, length-map ts triangle)) ∙ side_left)

  pub face_right : length ts ≤ i → {j : ℕ} → j ≡ first_fail (λ q. p (quad q)) qs → i + j ≡ first_fail p (faces_by ts qs)
  face_right h {j} g =
      sym (fail_right p (map triangle ts) (map quad qs) (omega (arith, side_left, length-map ts triangle))
      ∙ ap₂ (λ a b. a + b) side_left (fail_map p quad qs ∙ sym g))

-- where the rows are numbers
pub numbers : (xs : List ℕ) → map (λ j. j) xs ≡ xs
numbers [] = refl
numbers (x ∷ xs) = ap (λ l. x ∷ l) (numbers xs)

module _ {p : ℕ → Bool} {n i : ℕ} (a : FailUp p (λ j. j) n i) where
  pub number_found : i < n → p i ≡ false → i ≡ first_fail p (up_to n)
  number_found h t = fail_found a h t ∙ ap (first_fail p) (numbers (up_to n))

  pub number_done : n ≤ i → i ≡ first_fail p (up_to n)
  number_done h = fail_done a h ∙ ap (first_fail p) (numbers (up_to n))

-- whether any row fails, from where the first is
module _ {A : Type 0} (p : A → Bool) (xs : List A) where
  pub fail_some : first_fail p xs < length xs → all p xs ≡ false
  fail_some h = go (all p xs) refl
    where
      go : (b : Bool) → all p xs ≡ b → b ≡ false
      go true e = absurd (let f = none-fails p xs e in let z : ⊥ = omega arith in z)
      go false e = refl

  pub all_by_first : eqb (first_fail p xs) (length xs) ≡ all p xs
  all_by_first = go (all p xs) refl
    where
      go : (b : Bool) → all p xs ≡ b → eqb (first_fail p xs) (length xs) ≡ b
      go true e = eq-eqb _ _ (none-fails p xs e)
      go false e = let h = fails-below p xs e in ne_eqb (first_fail p xs) (length xs) (λ q. omega arith)

  pub fail_all : length xs ≤ first_fail p xs → all p xs ≡ true
  fail_all h = go (all p xs) refl
    where
      go : (b : Bool) → all p xs ≡ b → b ≡ true
      go true e = refl
      go false e = absurd (let f = fails-below p xs e in let z : ⊥ = omega arith in z)

-- Laws of tests over lists: a test over a list that another covers, the corners of a turned tuple, distinct numbers.
-- Assumes nothing.
use Prim.Native.Nat.{ℕ, zero, suc, ◌<◌}
use mathlib.Core.Path.{◌≡◌, refl, sym, ◌∙◌, ap, ap₂}
use mathlib.Core.Bool.{Bool, true, false, not, ◌&&◌, ◌||◌, false≢true}
use mathlib.Core.List.{List, [], ◌∷◌, map, Memᴰ}
use lib.Dec.{eqb, ltb}
use lib.ListN.{length, get_or}
use native.Mathlib.Omega.{arith}
use borrow.Author.Tests.{ltb-true, eqb-true, eq-eqb}
use Rattle.base.specs.Lists.{all, any, every, from, up_to, is_in, distinct, equal}
use Rattle.templates.specs.Tables.{at}
use Rattle.base.proofs.Bools.{or-either}
use Rattle.base.proofs.Lists.{both_left, both_right, all-at, all_from, any_at}
use Rattle.base.proofs.Members.{from_at, from-has}

-- two tests of which each passes where the other does
pub agree : (a b : Bool) → (a ≡ true → b ≡ true) → (b ≡ true → a ≡ true) → a ≡ b
agree true b f g = sym (f refl)
agree false true f g = g refl
agree false false f g = refl

pub both : (a b : Bool) → a ≡ true → b ≡ true → (a && b) ≡ true
both a b p q = rw (p, q)

pub or_comm : (a b : Bool) → (a || b) ≡ (b || a)
or_comm true true = refl
or_comm true false = refl
or_comm false true = refl
or_comm false false = refl

-- of tests that all pass, each passes
pub part : (bs : List Bool) → every bs ≡ true → (k : ℕ) → get_or bs k true ≡ true
part [] e k = refl
part (b ∷ bs) e zero = both_left _ _ e
part (b ∷ bs) e (suc k) = part bs (both_right b _ e) k

pub any-from : {A : Type 0} (p : A → Bool) (xs : List A) {x : A} → Memᴰ x xs → p x ≡ true → any p xs ≡ true
any-from {A = A} p [] x4 e = elim x4 [ ]
any-from p (y ∷ ys) (Memᴰ.head q) e = rw (← q, e)
any-from p (y ∷ ys) (Memᴰ.tail h) e = rw (any-from p ys h e, or_comm (p y) true)

pub equal_eq : (xs ys : List ℕ) → equal xs ys ≡ true → xs ≡ ys
unfolding equal
equal_eq [] [] e = refl
equal_eq [] (y ∷ ys) e = cc
equal_eq (x ∷ xs) [] e = cc
equal_eq (x ∷ xs) (y ∷ ys) e =
    ap₂ (λ z zs. z ∷ zs) (eqb-true x y (both_left (eqb x y) (equal xs ys) e)) (equal_eq xs ys (both_right (eqb x y) (equal xs ys) e))

pub equal_refl : (xs : List ℕ) → equal xs xs ≡ true
unfolding equal
equal_refl [] = refl
equal_refl (x ∷ xs) = rw (eq-eqb x x refl, equal_refl xs)

-- ── a test over a list that another covers ──

module _ {A B : Type 0} where
  -- each of either list is related to one of the other
  unfoldable pub covers : (A → B → Bool) → List A → List B → Bool
  covers r xs ys = all (λ x. any (r x) ys) xs && all (λ y. any (λ x. r x y) xs) ys

  module _ (r : A → B → Bool) (p : A → Bool) (q : B → Bool) (xs : List A) (ys : List B) (same : (x : A) (y : B) → r x y ≡ true → p x ≡ q y) (e : covers r xs ys ≡ true) where
    there : {x : A} → Memᴰ x xs → (y : B) × Memᴰ y ys × (r x y ≡ true)
    unfolding covers
    there {x} h = any_at (r x) ys (all-at (λ x. any (r x) ys) xs (both_left _ _ e) h)

    back : {y : B} → Memᴰ y ys → (x : A) × Memᴰ x xs × (r x y ≡ true)
    unfolding covers
    back {y} h = any_at (λ x. r x y) xs (all-at (λ y. any (λ x. r x y) xs) ys (both_right (all (λ x. any (r x) ys) xs) _ e) h)

    pub all_over : all p xs ≡ all q ys
    all_over =
        agree _ _
        (λ t. all_from q ys (λ y h. let w = back h in sym (same w.0 y w.2) ∙ all-at p xs t w.1))
        (λ t. all_from p xs (λ x h. let w = there h in same x w.0 w.2 ∙ all-at q ys t w.1))

    pub any_over : any p xs ≡ any q ys
    any_over =
        agree _ _
        (λ t. let v = any_at p xs t in let w = there v.1 in any-from q ys w.1 (sym (same v.0 w.0 w.2) ∙ v.2))
        (λ t. let v = any_at q ys t in let w = back v.1 in any-from p xs w.1 (same w.0 v.0 w.2 ∙ v.2))

-- two lists of the same numbers
module _ (p : ℕ → Bool) (xs ys : List ℕ) (e : covers eqb xs ys ≡ true) where
  pub same-all : all p xs ≡ all p ys
  same-all = all_over eqb p p xs ys (λ x y q. ap p (eqb-true x y q)) e

  pub same-any : any p xs ≡ any p ys
  same-any = any_over eqb p p xs ys (λ x y q. ap p (eqb-true x y q)) e

-- ── corners of a tuple ──

pub get_d_map : (f : ℕ → ℕ) (l : List ℕ) (k : ℕ) → k < length l → get_or (map f l) k 0 ≡ f (get_or l k 0)
get_d_map f [] k h = omega arith
get_d_map f (x ∷ xs) zero h = refl
get_d_map f (x ∷ xs) (suc k) h = get_d_map f xs k (omega arith)

abbrev pub in_range : ℕ → List ℕ → Bool
in_range n ks = all (λ k. ltb k n) ks

-- a corner of a turned tuple is a corner of the tuple
pub at_at : (c r ks : List ℕ) → in_range (length r) ks ≡ true → at (at c r) ks ≡ at c (at r ks)
at_at c r [] e = refl
at_at c r (k ∷ ks) e =
    ap₂ (λ x xs. x ∷ xs)
    (get_d_map (λ j. get_or c j 0) r k (ltb-true k (length r) (both_left _ _ e)))
    (at_at c r ks (both_right (ltb k (length r)) _ e))

from_suc : {B : Type 0} (f : ℕ → B) (i k : ℕ) → map f (from (suc i) k) ≡ map (λ j. f (suc j)) (from i k)
from_suc f i zero = refl
from_suc f i (suc k) = ap (λ l. f (suc i) ∷ l) (from_suc f (suc i) k)

-- a tuple by its corners in turn
pub at_all : (c : List ℕ) → at c (up_to (length c)) ≡ c
at_all [] = refl
at_all (x ∷ xs) = ap (λ l. x ∷ l) (from_suc (λ k. get_or (x ∷ xs) k 0) 0 (length xs) ∙ at_all xs)

pub is_in-up_to : (v n : ℕ) → is_in v (up_to n) ≡ true → v < n
is_in-up_to v n e =
    let w = any_at (eqb v) (up_to n) e in
    let h = (from_at 0 n w.1).1 in
    let q = eqb-true v w.0 w.2 in
    omega arith

pub up_to-is_in : (v n : ℕ) → v < n → is_in v (up_to n) ≡ true
up_to-is_in v n h = any-from (eqb v) (up_to n) (from-has 0 n v (omega arith) (omega arith)) (eq-eqb v v refl)

-- ── distinct numbers ──

pub is_in-at : (c : List ℕ) (i : ℕ) → i < length c → is_in (get_or c i 0) c ≡ true
is_in-at [] i h = absurd (omega arith)
is_in-at (x ∷ xs) zero h = rw (eq-eqb x x refl)
is_in-at (x ∷ xs) (suc i) h = rw (is_in-at xs i (omega arith), or_comm (eqb (get_or xs i 0) x) true)

pub at-is_in : (c : List ℕ) (v : ℕ) → is_in v c ≡ true → (i : ℕ) × (i < length c) × (get_or c i 0 ≡ v)
at-is_in [] v e = absurd (false≢true e)
at-is_in (x ∷ xs) v e =
    or-either (eqb v x) (is_in v xs) e
    (λ q. (0, omega arith, sym (eqb-true v x q)))
    (λ q. let w = at-is_in xs v q in (suc w.0, omega arith, w.2))

not_both : {X : Type 0} (b : Bool) → not b ≡ true → b ≡ true → X
not_both true e q = absurd (false≢true e)
not_both false e q = absurd (false≢true q)

pub distinct-at : (c : List ℕ) → distinct c ≡ true → (i j : ℕ) → i < length c → j < length c → get_or c i 0 ≡ get_or c j 0 → i ≡ j
distinct-at [] e i j h k q = omega arith
distinct-at (x ∷ xs) e zero zero h k q = refl
distinct-at (x ∷ xs) e zero (suc j) h k q =
    not_both (is_in x xs) (both_left _ _ e) (rw q (is_in-at xs j (omega arith)))
distinct-at (x ∷ xs) e (suc i) zero h k q =
    not_both (is_in x xs) (both_left _ _ e) (rw (← q) (is_in-at xs i (omega arith)))
distinct-at (x ∷ xs) e (suc i) (suc j) h k q =
    ap suc (distinct-at xs (both_right (not (is_in x xs)) _ e) i j (omega arith) (omega arith) q)

pub at-distinct : (c : List ℕ) → ((i j : ℕ) → i < length c → j < length c → get_or c i 0 ≡ get_or c j 0 → i ≡ j) → distinct c ≡ true
at-distinct [] f = refl
at-distinct (x ∷ xs) f = both _ _ (go (is_in x xs) refl) (at-distinct xs (λ i j h k q. let e = f (suc i) (suc j) (omega arith) (omega arith) q in omega arith))
  where
    go : (b : Bool) → is_in x xs ≡ b → not b ≡ true
    go true e = let w = at-is_in xs x e in let z = f 0 (suc w.0) (omega arith) (omega arith) (sym w.2) in absurd (omega arith)
    go false e = refl

-- Least form: every tuple of distinct corners has exactly one among its turns. Turning twice is a turn.
-- Assumes nothing.
use Prim.Native.Nat.{ℕ, zero, suc, ◌<◌}
use mathlib.Core.Path.{◌≡◌, refl, sym, ◌∙◌, ap, ap₂}
use mathlib.Core.Logic.{◌⊎◌, inl, inr, ⊎_elim}
use mathlib.Core.Bool.{Bool, true, false, not, cond, ◌&&◌, ◌||◌, false≢true}
use mathlib.Core.List.Memᴰ
use mathlib.Core.List.{List, [], ◌∷◌, map, Memᴰ}
use lib.Dec.{eqb, ltb}
use lib.ListN.{length, get_or}
use native.Mathlib.Omega.{arith}
use borrow.Author.Tests.{ltb-true, ltb-false, eqb-true, eq-eqb, lt-ltb, not-true, eqb-false}
use Rattle.base.specs.Lists.{all, any, every, keep, up_to, distinct, equal}
use Rattle.base.proofs.Bools.{or-either}
use Rattle.base.proofs.Lists.{both_left, both_right, all-at, all_from, any_at, keep-map}
use Rattle.templates.specs.Tables.{Template, templates, at}
use Rattle.least.specs.Least.{first_is_less, rises_at, is_least}
use Rattle.templates.proofs.Tests.{equal_eq, part, or_comm, in_range, at_at, at_all, distinct-at}
use Rattle.least.proofs.Turns.{keeps, corner_tests, table_tests, even, row_keeps, row-corners, turned-distinct, turned-at, turned-length}

-- ---- turning twice

-- the rows are of corners, the identity is one, two rows make a row, and each row has one that undoes it
unfoldable pub group_tests : Template → List Bool
group_tests t =
    all (in_range t.corners) t.turns ∷
    any (equal (up_to t.corners)) t.turns ∷
    all (λ r. all (λ s. any (equal (at r s)) t.turns) t.turns) t.turns ∷
    all (λ r. any (λ s. equal (at r s) (up_to t.corners)) t.turns) t.turns ∷
    []

pub groups : all (λ t. every (group_tests t)) templates ≡ true
unfolding group_tests equal
groups = refl

-- ---- the lexical order

unfoldable pub less_than : List ℕ → List ℕ → Bool
less_than [] ys = false
less_than (x ∷ xs) [] = false
less_than (x ∷ xs) (y ∷ ys) = let r = less_than xs ys in ltb x y || (eqb x y && r)

pub less_head : (x y : ℕ) (xs ys : List ℕ) → x < y → less_than (x ∷ xs) (y ∷ ys) ≡ true
unfolding less_than
less_head x y xs ys h = rw (lt-ltb x y h)

pub less_tail : (x y : ℕ) (xs ys : List ℕ) → x ≡ y → less_than xs ys ≡ true → less_than (x ∷ xs) (y ∷ ys) ≡ true
unfolding less_than
less_tail x y xs ys e h = rw (eq-eqb x y e, h, or_comm (ltb x y) true)

less_cases : (x y : ℕ) (xs ys : List ℕ) → less_than (x ∷ xs) (y ∷ ys) ≡ true → (x < y) ⊎ ((x ≡ y) × (less_than xs ys ≡ true))
unfolding less_than
less_cases x y xs ys e =
    or-either (ltb x y) _ e
    (λ h. inl (ltb-true x y h))
    (λ h. inr (eqb-true x y (both_left (eqb x y) _ h), both_right (eqb x y) _ h))

pub less_irrefl : (xs : List ℕ) → less_than xs xs ≡ true → ⊥
unfolding less_than
less_irrefl [] e = false≢true e
less_irrefl (x ∷ xs) e = ⊎_elim (λ h. omega arith) (λ h. less_irrefl xs h.1) (less_cases x x xs xs e)

pub less_trans : (xs ys zs : List ℕ) → less_than xs ys ≡ true → less_than ys zs ≡ true → less_than xs zs ≡ true
unfolding less_than
less_trans [] ys zs e f = absurd (false≢true e)
less_trans (x ∷ xs) [] zs e f = absurd (false≢true e)
less_trans (x ∷ xs) (y ∷ ys) [] e f = absurd (false≢true f)
less_trans (x ∷ xs) (y ∷ ys) (z ∷ zs) e f =
    ⊎_elim
    (λ h. ⊎_elim (λ k. less_head x z xs zs (omega arith)) (λ k. less_head x z xs zs (omega arith)) (less_cases y z ys zs f))
    (λ h. ⊎_elim (λ k. less_head x z xs zs (omega arith)) (λ k. less_tail x z xs zs (h.0 ∙ k.0) (less_trans xs ys zs h.1 k.1)) (less_cases y z ys zs f))
    (less_cases x y xs ys e)

-- of a list that is not empty, one at which f is least
module _ {A : Type 0} (f : A → List ℕ) where
  Least : A → List A → Type 0
  Least w xs = (z : A) → Memᴰ z xs → less_than (f z) (f w) ≡ true → ⊥

  least : (x : A) (xs : List A) → (w : A) × Memᴰ w (x ∷ xs) × Least w (x ∷ xs)
  unfolding Least
  least x [] = (x, Memᴰ.head refl, λ z h e. ⊎_elim (λ q. less_irrefl (f x) (ap (λ y. less_than (f y) (f x)) (sym q) ∙ e)) (λ k. elim k [ ]) (Memᴰ.cases_cons h))
  least x (y ∷ ys) = go (least y ys)
    where
      go : (w : A) × Memᴰ w (y ∷ ys) × ((z : A) → Memᴰ z (y ∷ ys) → less_than (f z) (f w) ≡ true → ⊥) → (w : A) × Memᴰ w (x ∷ y ∷ ys) × ((z : A) → Memᴰ z (x ∷ y ∷ ys) → less_than (f z) (f w) ≡ true → ⊥)
      go w = pick (less_than (f x) (f w.0)) refl
        where
          pick : (b : Bool) → less_than (f x) (f w.0) ≡ b → (v : A) × Memᴰ v (x ∷ y ∷ ys) × ((z : A) → Memᴰ z (x ∷ y ∷ ys) → less_than (f z) (f v) ≡ true → ⊥)
          pick true q = (x, Memᴰ.head refl, λ z h e. ⊎_elim (λ p. less_irrefl (f x) (ap (λ y. less_than (f y) (f x)) (sym p) ∙ e)) (λ k. w.2 z k (less_trans (f z) (f x) (f w.0) e q)) (Memᴰ.cases_cons h))
          pick false q = (w.0, Memᴰ.tail w.1, λ z h e. ⊎_elim (λ p. false≢true (sym q ∙ ap (λ y. less_than (f y) (f w.0)) (sym p) ∙ e)) (λ k. w.2 z k e) (Memᴰ.cases_cons h))

  least-of : (xs : List A) {x : A} → Memᴰ x xs → (w : A) × Memᴰ w xs × Least w xs
  least-of [] h = elim h [ ]
  least-of (y ∷ ys) h = least y ys

-- ---- one of a list whose elements exclude one another

module _ {A : Type 0} where
  -- the test passes at each two, an earlier and a later
  unfoldable pub pairwise : (A → A → Bool) → List A → Bool
  pairwise f [] = true
  pairwise f (x ∷ xs) = all (f x) xs && pairwise f xs

  pub keep-none : (p : A → Bool) (xs : List A) → ((x : A) → Memᴰ x xs → p x ≡ true → ⊥) → keep p xs ≡ []
  unfolding keep
  keep-none p [] f = refl
  keep-none p (x ∷ xs) f = go (p x) (f x (Memᴰ.head refl)) (keep-none p xs (λ y h. f y (Memᴰ.tail h)))
    where
      go : (b : Bool) → (b ≡ true → ⊥) → keep p xs ≡ [] → cond b (x ∷ keep p xs) (keep p xs) ≡ []
      go true n e = absurd (n refl)
      go false n e = e

  pub keep_one : (p : A → Bool) (f : A → A → Bool) → ((x y : A) → f x y ≡ true → p x ≡ true → p y ≡ true → ⊥) → (xs : List A) → pairwise f xs ≡ true → {x : A} → Memᴰ x xs → p x ≡ true → keep p xs ≡ x ∷ []
  unfolding keep pairwise
  keep_one p f n [] e x5 h = elim x5 [ ]
  keep_one p f n (y ∷ ys) e (Memᴰ.head {x = x} q) h =
      let g : p y ≡ true = ap p (sym q) ∙ h in
      rw g (ap₂ (λ z zs. z ∷ zs) (sym q) (keep-none p ys (λ z k w. n y z (all-at (f y) ys (both_left _ _ e) k) g w)))
  keep_one p f n (y ∷ ys) e (Memᴰ.tail k) h =
      go (p y) (λ g. n y _ (all-at (f y) ys (both_left (all (f y) ys) _ e) k) g h) (keep_one p f n ys (both_right (all (f y) ys) _ e) k h)
    where
      go : (b : Bool) → (b ≡ true → ⊥) → {l : List A} → keep p ys ≡ l → cond b (y ∷ keep p ys) (keep p ys) ≡ l
      go true w q = absurd (w refl)
      go false w q = q

-- ---- two least forms among the turns

-- r sets one corner below another, and s the other below the one
unfoldable pub clash_tests : List ℕ → List ℕ → List ℕ → List ℕ → List Bool
clash_tests r s p q = equal (at p (0 ∷ 1 ∷ [])) p ∷ in_range (length r) p ∷ in_range (length s) q ∷ equal (at s q) (at r (at p (1 ∷ 0 ∷ []))) ∷ []

unfoldable pub clash : Template → List ℕ → List ℕ → Bool
clash t r s = any (λ p. any (λ q. every (clash_tests r s p q)) t.less) t.less

-- r agrees with s before place i, and has v there
unfoldable pub steps_to : ℕ → ℕ → List ℕ → List ℕ → Bool
steps_to i v [] s = false
steps_to i v (x ∷ r) [] = false
steps_to zero v (x ∷ r) (y ∷ s) = eqb x v
steps_to (suc i) v (x ∷ r) (y ∷ s) = eqb x y && steps_to i v r s

-- where a row breaks a rule of the least form, another row is less
unfoldable pub descend_tests : Template → List ℕ → List ℕ → List Bool
descend_tests t r p =
    equal (at p (0 ∷ 1 ∷ [])) p ∷
    in_range (length r) p ∷
    not (eqb (get_or p 0 0) (get_or p 1 0)) ∷
    any (λ s. steps_to (get_or p 0 0) (get_or r (get_or p 1 0) 0) s r) t.turns ∷
    []

unfoldable pub descends : Template → List ℕ → Bool
descends t r = all (λ p. every (descend_tests t r p)) t.less

unfoldable pub has_least : Template → Bool
has_least t = pairwise (clash t) t.turns && all (descends t) t.turns

pub leasts : all has_least templates ≡ true
unfolding has_least pairwise clash clash_tests descends descend_tests steps_to equal
leasts = refl

module _ (t : Template) (c : List ℕ) where
  rises-at : (r p : List ℕ) → equal (at p (0 ∷ 1 ∷ [])) p ≡ true → in_range (length r) p ≡ true → first_is_less (at (at c r) p) ≡ first_is_less (at c (at r (at p (0 ∷ 1 ∷ []))))
  rises-at r p e h = ap first_is_less (at_at c r p h ∙ ap (λ x. at c (at r x)) (sym (equal_eq _ p e)))

  not-two : (r s : List ℕ) → clash t r s ≡ true → is_least t (at c r) ≡ true → is_least t (at c s) ≡ true → ⊥
  unfolding clash clash_tests is_least rises_at first_is_less
  not-two r s e h k =
      let p = any_at _ t.less e in
      let q = any_at _ t.less p.2 in
      let x = p.0 in
      let tests = clash_tests r s x q.0 in
      let i = get_or c (get_or r (get_or x 0 0) 0) 0 in
      let j = get_or c (get_or r (get_or x 1 0) 0) 0 in
      let up : ltb i j ≡ true = sym (rises-at r x (part tests q.2 0) (part tests q.2 1)) ∙ all-at (λ x. first_is_less (at (at c r) x)) t.less h p.1 in
      let down : ltb j i ≡ true =
      ap (λ x. first_is_less (at c x)) (sym (equal_eq (at s q.0) (at r (at x (1 ∷ 0 ∷ []))) (part tests q.2 3)))
      ∙ ap first_is_less (sym (at_at c s q.0 (part tests q.2 2)))
      ∙ all-at (λ x. first_is_less (at (at c s) x)) t.less k q.1 in
      let a = ltb-true i j up in
      let b = ltb-true j i down in
      omega arith

  steps-less : (i v : ℕ) (s r : List ℕ) → steps_to i v s r ≡ true → get_or c v 0 < get_or c (get_or r i 0) 0 → less_than (at c s) (at c r) ≡ true
  unfolding steps_to
  steps-less i v [] r e h = absurd (false≢true e)
  steps-less i v (x ∷ s) [] e h = absurd (false≢true e)
  steps-less zero v (x ∷ s) (y ∷ r) e h = less_head (get_or c x 0) (get_or c y 0) (at c s) (at c r) (rw (eqb-true x v e) h)
  steps-less (suc i) v (x ∷ s) (y ∷ r) e h =
      less_tail (get_or c x 0) (get_or c y 0) (at c s) (at c r) (ap (λ k. get_or c k 0) (eqb-true x y (both_left _ _ e)))
      (steps-less i v s r (both_right (eqb x y) _ e) h)

  -- a row at which the tuple is least in the lexical order gives the least form
  is-least : (r : List ℕ) → keeps t r ≡ true → descends t r ≡ true → length c ≡ t.corners → distinct c ≡ true → Least (at c) r t.turns → is_least t (at c r) ≡ true
  unfolding is_least rises_at descends descend_tests Least first_is_less
  is-least r k d l n w = all_from _ t.less (λ p h. one p (all-at _ t.less d h))
    where
      one : (p : List ℕ) → every (descend_tests t r p) ≡ true → first_is_less (at (at c r) p) ≡ true
      one p e =
          let tests = descend_tests t r p in
          let h : in_range (length r) (at p (0 ∷ 1 ∷ [])) ≡ true = ap (in_range (length r)) (equal_eq _ p (part tests e 0)) ∙ part tests e 1 in
          rises-at r p (part tests e 0) (part tests e 1) ∙ go (ltb x y) refl (lt (get_or p 0 0) (part hs h 0)) (lt (get_or p 1 0) (part hs h 1))
        where
          x : ℕ
          x = get_or c (get_or r (get_or p 0 0) 0) 0

          y : ℕ
          y = get_or c (get_or r (get_or p 1 0) 0) 0

          hs : List Bool
          hs = ltb (get_or p 0 0) (length r) ∷ ltb (get_or p 1 0) (length r) ∷ []

          lt : (i : ℕ) → ltb i (length r) ≡ true → i < length r
          lt i h = ltb-true i (length r) h

          go : (b : Bool) → ltb x y ≡ b → get_or p 0 0 < length r → get_or p 1 0 < length r → ltb x y ≡ true
          go true q hi hj = q
          go false q hi hj =
              let i = get_or p 0 0 in
              let j = get_or p 1 0 in
              let tests = descend_tests t r p in
              let s = any_at _ t.turns (part tests e 3) in
              let le = ltb-false x y q in
              let o = row-corners t r k in
              let ln = turned-length t r c o l in
              let differ : x ≡ y → ⊥ = λ z. eqb-false i j (not-true (eqb i j) (part tests e 2)) (distinct-at (at c r) (turned-distinct t r c o l ∙ n) i j (omega arith) (omega arith) (turned-at t r c o l i hi ∙ z ∙ sym (turned-at t r c o l j hj))) in
              absurd (w s.0 s.1 (steps-less i (get_or r j 0) s.0 r s.2 (omega arith)))

row-size : {t : Template} {r : List ℕ} → Memᴰ t templates → Memᴰ r t.turns → length r ≡ t.corners
unfolding keeps table_tests corner_tests
row-size {t} {r} h k = eqb-true _ _ (part (corner_tests t r) (part (table_tests even t r) (row_keeps h k) 0) 0)

group : {t : Template} → Memᴰ t templates → every (group_tests t) ≡ true
group h = all-at (λ t. every (group_tests t)) templates groups h

-- the row that turns nothing
pub identity : {t : Template} → Memᴰ t templates → (r : List ℕ) × Memᴰ r t.turns × ((c : List ℕ) → length c ≡ t.corners → at c r ≡ c)
unfolding group_tests
identity {t} h =
    let w = any_at (equal (up_to t.corners)) t.turns (part (group_tests t) (group h) 1) in
    (w.0, w.1, λ c l. ap (at c) (sym (equal_eq _ w.0 w.2) ∙ ap up_to (sym l)) ∙ at_all c)

-- every tuple of distinct corners has exactly one least form among its turns
pub one-least : {t : Template} → Memᴰ t templates → (c : List ℕ) → length c ≡ t.corners → distinct c ≡ true → (r : List ℕ) × Memᴰ r t.turns × (is_least t (at c r) ≡ true) × (keep (is_least t) (map (at c) t.turns) ≡ at c r ∷ [])
unfolding has_least
one-least {t} h c l n =
    let e = all-at has_least templates leasts h in
    let i = identity h in
    let w = least-of (at c) t.turns i.1 in
    let d = all-at (descends t) t.turns (both_right (pairwise (clash t) t.turns) _ e) w.1 in
    let m = is-least t c w.0 (row_keeps h w.1) d l n w.2 in (
      w.0,
      w.1,
      m,
      keep-map (is_least t) (at c) t.turns
          ∙ ap (map (at c)) (keep_one (λ r. is_least t (at c r)) (clash t) (not-two t c) t.turns (both_left _ _ e) w.1 m),
    )

-- turning twice is a turn, and each turn is undone by one
twice : {t : Template} → Memᴰ t templates → {r s : List ℕ} → Memᴰ r t.turns → Memᴰ s t.turns → (c : List ℕ) → at (at c r) s ≡ at c (at r s)
unfolding group_tests
twice {t} h {r} {s} k j c = at_at c r s (ap (λ n. in_range n s) (row-size h k) ∙ all-at (in_range t.corners) t.turns (part (group_tests t) (group h) 0) j)

pub turn_twice : {t : Template} → Memᴰ t templates → {r s : List ℕ} → Memᴰ r t.turns → Memᴰ s t.turns → (c : List ℕ) → (q : List ℕ) × Memᴰ q t.turns × (at (at c r) s ≡ at c q)
unfolding group_tests
turn_twice {t} h {r} {s} k j c =
    let w = any_at (equal (at r s)) t.turns (all-at (λ s. any (equal (at r s)) t.turns) t.turns (all-at (λ r. all (λ s. any (equal (at r s)) t.turns) t.turns) t.turns (part (group_tests t) (group h) 2) k) j) in
    (w.0, w.1, twice h k j c ∙ ap (at c) (equal_eq (at r s) w.0 w.2))

pub turn_back : {t : Template} → Memᴰ t templates → {r : List ℕ} → Memᴰ r t.turns → (c : List ℕ) → length c ≡ t.corners → (s : List ℕ) × Memᴰ s t.turns × (at (at c r) s ≡ c)
unfolding group_tests
turn_back {t} h {r} k c l =
    let w = any_at (λ s. equal (at r s) (up_to t.corners)) t.turns (all-at (λ r. any (λ s. equal (at r s) (up_to t.corners)) t.turns) t.turns (part (group_tests t) (group h) 3) k) in
    (w.0, w.1, twice h k w.1 c ∙ ap (at c) (equal_eq (at r w.0) (up_to t.corners) w.2 ∙ ap up_to (sym l)) ∙ at_all c)

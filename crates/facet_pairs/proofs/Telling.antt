-- What stores in the table add up to, and that each tetrahedron told at its four facets is told at each three different
-- vertices of it.
-- Assumes nothing.
use Prim.Native.Nat.{ℕ, ◌+◌, ◌*◌, ◌/◌, ◌%◌, ◌<◌}
use mathlib.Core.Path.{◌≡◌, refl, sym, ◌∙◌, ap}
use mathlib.Core.Logic.{◌⊎◌, inl, inr, ⊎_elim}
use mathlib.Core.Bool.{Bool, true, false, not, false≢true}
use mathlib.Core.List.{List, [], ◌∷◌}
use native.Mathlib.Omega.{arith}
use borrow.Author.Tests.{eqb-true, eqb-false, eq-eqb, ne_eqb}
use lib.Dec.{eqb}
use lib.ListN.{length, get_or, set, length-set}
use lib.Seq.{get_or-set_same, get_or-set_other}
use Rattle.std.specs.Prelude.{Some, None}
use Rattle.std.proofs.lemmas.Option.{none-some, same_Some}
use Rattle.base.specs.Lists.{is_in, distinct}
use Rattle.base.specs.between.Stores.{Below}
use Rattle.base.proofs.Stores.{stores_either}
use Rattle.base.proofs.Bools.{and_left, and_right, or-either}
use Rattle.space.proofs.Turned.{hash3-first, hash3-last}
use Rattle.space.specs.Arrays.{row4}
use Rattle.facet_pairs.specs.between.Pairs.{pair_place, StandsAt, PairsOf, Names, Puts, OfFacet, IsFacetPlace, AtFacets, PairsAsked}

-- ── one store ──

-- the place is free: what it told before was told by the other one, and that stays
pub put_first : {p : List ℕ} (e u v w k : ℕ) → k ≡ pair_place u v w → 2 * k < length p → get_or p (2 * k) 0 ≡ 0 → Puts p (set p (2 * k) (e + 1)) (OfFacet e u v w)
put_first {p} e u v w k q h z = record {
  same = length-set p (2 * k) (e + 1);
  kept = λ g t. ⊎_elim (λ a. inl (second g.0 ∙ a)) (λ s. ⊎_elim (λ b. inr (inl (first g.0 g.1 b))) (λ b. inr (inr (second g.0 ∙ b))) s) t;
  made = λ g o. inr (inl (rw (o.1, ← q, o.0) (get_or-set_same p (2 * k) (e + 1) 0 h)));
}
  where
    second : (j : ℕ) → get_or (set p (2 * k) (e + 1)) (2 * j + 1) 0 ≡ get_or p (2 * j + 1) 0
    second j = get_or-set_other p (2 * k) (2 * j + 1) (e + 1) 0 (λ f. omega arith)

    first : (j m : ℕ) → get_or p (2 * j) 0 ≡ m + 1 → get_or (set p (2 * k) (e + 1)) (2 * j) 0 ≡ m + 1
    first j m b = get_or-set_other p (2 * k) (2 * j) (e + 1) 0 (λ f. omega (arith, z, ap (λ i. get_or p i 0) f, b)) ∙ b

-- the second is free, and what the place told before was told by the first;
-- or the place tells whatever is asked from now on
pub put_second : {p : List ℕ} (e u v w k x : ℕ) → k ≡ pair_place u v w → 2 * k + 1 < length p → ((get_or p (2 * k + 1) 0 ≡ 0) × (x ≡ e + 1)) ⊎ (x ≡ 65535) → Puts p (set p (2 * k + 1) x) (OfFacet e u v w)
put_second {p} e u v w k x q h z = record {
  same = length-set p (2 * k + 1) x;
  kept = λ g t. stays g.0 g.1 t (eqb g.0 k) refl;
  made = λ g o. rw (o.1, ← q, o.0) (⊎_elim (λ a. inr (inr (now ∙ a.1))) (λ a. inl (now ∙ a)) z);
}
  where
    now : get_or (set p (2 * k + 1) x) (2 * k + 1) 0 ≡ x
    now = get_or-set_same p (2 * k + 1) x 0 h

    first : (j : ℕ) → get_or (set p (2 * k + 1) x) (2 * j) 0 ≡ get_or p (2 * j) 0
    first j = get_or-set_other p (2 * k + 1) (2 * j) x 0 (λ f. omega arith)

    second : (j : ℕ) → (j ≡ k → ⊥) → get_or (set p (2 * k + 1) x) (2 * j + 1) 0 ≡ get_or p (2 * j + 1) 0
    second j n = get_or-set_other p (2 * k + 1) (2 * j + 1) x 0 (λ f. n (omega arith))

    here : (m : ℕ) → StandsAt p k m → ((get_or p (2 * k + 1) 0 ≡ 0) × (x ≡ e + 1)) ⊎ (x ≡ 65535) → StandsAt (set p (2 * k + 1) x) k m
    here m t (inr a) = inl (now ∙ a)
    here m (inl b) (inl a) = absurd (let n : ⊥ = omega (arith, b, a.0) in n)
    here m (inr (inl b)) (inl a) = inr (inl (first k ∙ b))
    here m (inr (inr b)) (inl a) = absurd (let n : ⊥ = omega (arith, b, a.0) in n)

    stays : (j m : ℕ) → StandsAt p j m → (b : Bool) → eqb j k ≡ b → StandsAt (set p (2 * k + 1) x) j m
    stays j m t true f = let g : j ≡ k = eqb-true j k f in rw g (here m (rw g at t) z)
    stays j m t false f = let n = eqb-false j k f in ⊎_elim (λ a. inl (second j n ∙ a)) (λ s. ⊎_elim (λ b. inr (inl (first j ∙ b))) (λ b. inr (inr (second j n ∙ b))) s) t

-- ── the four facets of one tetrahedron ──

pub put-tet : {p p1 p2 p3 p4 : List ℕ} (e a b c d : ℕ) → Puts p p1 (OfFacet e b c d) → Puts p1 p2 (OfFacet e a c d) → Puts p2 p3 (OfFacet e a b d) → Puts p3 p4 (OfFacet e a b c) → Puts p p4 (AtFacets e a b c d)
put-tet e a b c d f g h i = stores_either {p = λ t. (OfFacet e b c d t ⊎ OfFacet e a c d t) ⊎ OfFacet e a b d t} (stores_either {p = λ t. OfFacet e b c d t ⊎ OfFacet e a c d t} (stores_either f g (λ t o. o)) h (λ t o. o)) i each
  where
    each : (t : ℕ × ℕ) → AtFacets e a b c d t → ((OfFacet e b c d t ⊎ OfFacet e a c d t) ⊎ OfFacet e a b d t) ⊎ OfFacet e a b c t
    each t (s, inl (inl (inl u))) = inl (inl (inl (s, u)))
    each t (s, inl (inl (inr u))) = inl (inl (inr (s, u)))
    each t (s, inl (inr u)) = inl (inr (s, u))
    each t (s, inr u) = inr (s, u)

-- ── three different vertices of four ──

place-first : (u v w : ℕ) → pair_place u v w ≡ pair_place v u w
unfolding pair_place
place-first u v w = ap (λ x. x % 32768) (hash3-first u v w)

place-last : (u v w : ℕ) → pair_place u v w ≡ pair_place u w v
unfolding pair_place
place-last u v w = ap (λ x. x % 32768) (hash3-last u v w)

-- which of four it is
among : (x a : ℕ) (vs : List ℕ) → is_in x (a ∷ vs) ≡ true → (x ≡ a) ⊎ (is_in x vs ≡ true)
among x a vs e = or-either (eqb x a) (is_in x vs) e (λ f. inl (eqb-true x a f)) (λ f. inr f)

rest : (x a : ℕ) (vs : List ℕ) → is_in x (a ∷ vs) ≡ true → (x ≡ a → ⊥) → is_in x vs ≡ true
rest x a vs e n = ⊎_elim (λ f. absurd (n f)) (λ f. f) (among x a vs e)

only : (x a : ℕ) → is_in x (a ∷ []) ≡ true → x ≡ a
only x a e = ⊎_elim (λ f. f) (λ f. absurd (false≢true f)) (among x a [] e)

-- what holds of places, of two or three different vertices in a list: one of them is the list's first, or none is
module _ (P : ℕ → Type 0) (v : ℕ) (vs : List ℕ) where
  two_in : (u y z : ℕ) → (y ≡ z → ⊥) → is_in y (v ∷ vs) ≡ true → is_in z (v ∷ vs) ≡ true → (is_in y vs ≡ true → is_in z vs ≡ true → P (pair_place u y z)) → ((w : ℕ) → is_in w vs ≡ true → P (pair_place u v w)) → P (pair_place u y z)
  two_in u y z n i j f g =
      ⊎_elim (λ e. rw e (g z (rest z v vs j (λ h. n (e ∙ sym h)))))
      (λ i'. ⊎_elim (λ e. rw e (rw (place-last u y v) (g y i'))) (λ j'. f i' j') (among z v vs j)) (among y v vs i)

  three_in : (x y z : ℕ) → (x ≡ y → ⊥) → (x ≡ z → ⊥) → (y ≡ z → ⊥) → is_in x (v ∷ vs) ≡ true → is_in y (v ∷ vs) ≡ true → is_in z (v ∷ vs) ≡ true → (is_in x vs ≡ true → is_in y vs ≡ true → is_in z vs ≡ true → P (pair_place x y z)) → ((p q : ℕ) → (p ≡ q → ⊥) → is_in p vs ≡ true → is_in q vs ≡ true → P (pair_place v p q)) → P (pair_place x y z)
  three_in x y z l m n h i j f g =
      ⊎_elim (λ e. rw e (g y z n (rest y v vs i (λ k. l (e ∙ sym k))) (rest z v vs j (λ k. m (e ∙ sym k)))))
      (λ h'. ⊎_elim (λ e. rw e (rw (place-first x v z) (g x z m h' (rest z v vs j (λ k. n (e ∙ sym k))))))
      (λ i'. ⊎_elim (λ e. rw e (rw (place-last x y v) (rw (place-first x v y) (g x y l h' i')))) (λ j'. f h' i' j') (among z v vs j)) (among y v vs i)) (among x v vs h)

at-facet : (a b c d x y z : ℕ) → (x ≡ y → ⊥) → (x ≡ z → ⊥) → (y ≡ z → ⊥) → is_in x (a ∷ b ∷ c ∷ d ∷ []) ≡ true → is_in y (a ∷ b ∷ c ∷ d ∷ []) ≡ true → is_in z (a ∷ b ∷ c ∷ d ∷ []) ≡ true → IsFacetPlace a b c d (pair_place x y z)
at-facet a b c d x y z l m n h i j =
    three_in P a (b ∷ c ∷ d ∷ []) x y z l m n h i j
    (λ h i j. three_in P b (c ∷ d ∷ []) x y z l m n h i j
    (λ h i j. three_in P c (d ∷ []) x y z l m n h i j (λ h i j. absurd (l (only x d h ∙ sym (only y d i)))) (λ p q n i j. absurd (n (only p d i ∙ sym (only q d j)))))
    (λ p q n i j. last b p q n i j (inl (inl (inl refl)))))
    (λ p q n i j. two_in P b (c ∷ d ∷ []) a p q n i j
    (λ i j. last a p q n i j (inl (inl (inr refl))))
    (λ w i. ⊎_elim (λ e. rw e (inr refl)) (λ i. rw (only w d i) (inl (inr refl))) (among w c (d ∷ []) i)))
  where
    P : ℕ → Type 0
    P = IsFacetPlace a b c d

    last : (u p q : ℕ) → (p ≡ q → ⊥) → is_in p (c ∷ d ∷ []) ≡ true → is_in q (c ∷ d ∷ []) ≡ true → IsFacetPlace a b c d (pair_place u c d) → IsFacetPlace a b c d (pair_place u p q)
    last u p q n i j t = two_in (IsFacetPlace a b c d) c (d ∷ []) u p q n i j (λ i j. absurd (n (only p d i ∙ sym (only q d j)))) (λ w i. rw (only w d i) t)

-- ── the table ──

module _ (x y z : ℕ) (e : distinct (x ∷ y ∷ z ∷ []) ≡ true) where
  apart_1 : x ≡ y → ⊥
  apart_1 f = false≢true (rw (eq-eqb x y f) at e)

  apart_2 : x ≡ z → ⊥
  apart_2 f = false≢true (rw (ne_eqb x y apart_1, eq-eqb x z f) at e)

  apart_3 : y ≡ z → ⊥
  apart_3 f = false≢true (rw (eq-eqb y z f) at (and_right (not (is_in x (y ∷ z ∷ []))) _ e))

pub all_told : {p p' ls : List ℕ} → length p ≡ 65536 → Puts p p' (Below (PairsAsked ls) (length ls / 4)) → PairsOf ls p'
all_told {p} {p'} {ls} l t = record {
  size = t.same ∙ l;
  told = λ m a b c h d o.
      let r = row4 ls m in
      let o1 = and_right (is_in a r) _ o in
      let i = and_left (is_in a r) _ o in
      let j = and_left (is_in b r) _ o1 in
      let k = and_left (is_in c r) _ (and_right (is_in b r) _ o1) in
      t.made (pair_place a b c, m) (record { which = m; before = h; held = (refl, at-facet (get_or ls (4 * m) 0) (get_or ls (4 * m + 1) 0) (get_or ls (4 * m + 2) 0) (get_or ls (4 * m + 3) 0) a b c (apart_1 a b c d) (apart_2 a b c d) (apart_3 a b c d) i j k) });
}

-- what stands at the place of three different vertices
pub named : {ls ps : List ℕ} → PairsOf ls ps → (a b c k : ℕ) → distinct (a ∷ b ∷ c ∷ []) ≡ true → k ≡ pair_place a b c → (get_or ps (2 * k + 1) 0 ≡ 65535 → ⊥) → Names ls a b c (Some (get_or ps (2 * k) 0, get_or ps (2 * k + 1) 0))
named {ls} {ps} t a b c k d e n = record { among = λ pair s m h o. ⊎_elim (λ f. absurd (n f)) (λ g. rw (← same_Some _ pair s) g) (rw (← e) at (t.told m a b c h d o)) }

-- many: none is named
pub named_none : {ls : List ℕ} (a b c : ℕ) → Names ls a b c None
named_none a b c = record { among = λ pair s. absurd (none-some pair s) }

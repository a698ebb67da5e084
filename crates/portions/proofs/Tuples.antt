-- The order of tuples is an order, and it is that of their keys.
-- Assumes nothing.
use Prim.Native.Nat.{ℕ, zero, suc, ◌+◌, ◌<◌, ◌≤◌}
use mathlib.Core.Path.{◌≡◌, refl, sym, ◌∙◌, ap, ap₂, subst}
use mathlib.Core.Logic.{◌⊎◌, inl, inr, ⊎_elim}
use mathlib.Core.Bool.{Bool, true, false, true≢false}
use mathlib.Core.List.Memᴰ
use mathlib.Core.List.{List, ◌∷◌, map, Memᴰ}
use lib.ListN.{length, get_or}
use native.Mathlib.Omega.{arith}
use native.Mathlib.Decide.{dec_lt}
use Rattle.base.specs.Lists.{from}
use Rattle.base.proofs.Members.{map_at}
use Rattle.portions.specs.Portions.{before, rises}
use Rattle.portions.specs.between.Tuples.{Agree, Lt, Le, LeastAfter, front, stack, tuples}
use Rattle.portions.proofs.Order.{before-less, before_same, before_cases, rises-append, rises-map, rises_so}

-- ── the order is an order ──

pub lt_irrefl : (k : ℕ) (x y : List ℕ) → Agree k x y → Lt k x y → ⊥
lt_irrefl k x y e h = omega (arith, h.less, e h.place h.within)

pub lt_trans : (k : ℕ) (x y z : List ℕ) → Lt k x y → Lt k y z → Lt k x z
lt_trans k x y z a b =
    elim (dec_lt a.place b.place) [
      | yes p ↦ record {
        place = a.place;
        within = a.within;
        same = λ j l. a.same j l ∙ b.same j (omega arith);
        less = omega (arith, a.less, b.same a.place p);
      }
      | no p ↦ record {
        place = b.place;
        within = b.within;
        same = λ j l. a.same j (omega arith) ∙ b.same j l;
        less = elim (dec_lt b.place a.place) [
          | yes q ↦ omega (arith, b.less, a.same b.place q)
          | no q ↦
              let e : a.place ≡ b.place = omega arith in
              let f : get_or x b.place 0 < get_or y b.place 0 = subst (λ (i : ℕ). get_or x i 0 < get_or y i 0) e a.less in
              omega (arith, b.less)
        ];
      }
    ]

pub lt_agree : (k : ℕ) (x y z : List ℕ) → Lt k x y → Agree k y z → Lt k x z
lt_agree k x y z a e = record {
  place = a.place;
  within = a.within;
  same = λ j l. a.same j l ∙ e j (omega (arith, a.within));
  less = omega (arith, a.less, e a.place a.within);
}

pub agree_lt : (k : ℕ) (x y z : List ℕ) → Agree k x y → Lt k y z → Lt k x z
agree_lt k x y z e a = record {
  place = a.place;
  within = a.within;
  same = λ j l. e j (omega (arith, a.within)) ∙ a.same j l;
  less = omega (arith, a.less, e a.place a.within);
}

pub le_antisym : (k : ℕ) (x y : List ℕ) → Le k x y → Le k y x → Agree k x y
le_antisym k x y (inr a) q = a
le_antisym k x y (inl a) (inr b) = absurd (lt_irrefl k x y (λ j l. sym (b j l)) a)
le_antisym k x y (inl a) (inl b) = absurd (lt_irrefl k x x (λ j l. refl) (lt_trans k x y x a b))

pub lt_le : (k : ℕ) (x y z : List ℕ) → Lt k x y → Le k y z → Lt k x z
lt_le k x y z a (inl b) = lt_trans k x y z a b
lt_le k x y z a (inr b) = lt_agree k x y z a b

-- ── the order of tuples, by places and by lists ──

module _ (s t : List ℕ) where
  -- before from the place i on
  record Less (i k : ℕ) : Type 0 where
    place : ℕ
    from_here : i ≤ place
    to_here : place < i + k
    same : (j : ℕ) → i ≤ j → j < place → get_or s j 0 ≡ get_or t j 0
    less : get_or s place 0 < get_or t place 0

  to_less : (k i : ℕ) → before (map (λ x. get_or s x 0) (from i k)) (map (λ x. get_or t x 0) (from i k)) ≡ true → Less i k
  unfolding before
  to_less zero i e = absurd (true≢false (sym e))
  to_less (suc k) i e = go (before_cases (get_or s i 0) (get_or t i 0) (map (λ x. get_or s x 0) (from (suc i) k)) (map (λ x. get_or t x 0) (from (suc i) k)) e) (to_less k (suc i))
    where
      go : (get_or s i 0 < get_or t i 0) ⊎ ((get_or s i 0 ≡ get_or t i 0) × (before (map (λ x. get_or s x 0) (from (suc i) k)) (map (λ x. get_or t x 0) (from (suc i) k)) ≡ true)) → (before (map (λ x. get_or s x 0) (from (suc i) k)) (map (λ x. get_or t x 0) (from (suc i) k)) ≡ true → Less (suc i) k) → Less i (suc k)
      go (inl l) r = record { place = i; from_here = omega arith; to_here = omega arith; same = λ j g h. absurd (let z : ⊥ = omega arith in z); less = l }
      go (inr e) r =
          let x = r e.1 in
          record {
            place = x.place;
            from_here = omega (arith, x.from_here);
            to_here = omega (arith, x.to_here);
            same = λ j g h. elim (dec_lt i j) [ yes p ↦ x.same j p h | no p ↦ subst (λ i. get_or s i 0 ≡ get_or t i 0) (let q : i ≡ j = omega arith in q) e.0 ];
            less = x.less;
          }

  of-less : (k i : ℕ) → Less i k → before (map (λ x. get_or s x 0) (from i k)) (map (λ x. get_or t x 0) (from i k)) ≡ true
  of-less zero i x = absurd (let z : ⊥ = omega (arith, x.from_here, x.to_here) in z)
  of-less (suc k) i x =
      elim (dec_lt i x.place) [
        | yes p ↦
            ap (λ v. before (get_or s i 0 ∷ map (λ x. get_or s x 0) (from (suc i) k)) (v ∷ map (λ x. get_or t x 0) (from (suc i) k))) (sym (x.same i (omega arith) p))
            ∙ before_same (get_or s i 0) _ _
            ∙ of-less k (suc i) (record { place = x.place; from_here = p; to_here = omega (arith, x.to_here); same = λ j g h. x.same j (omega arith) h; less = x.less })
        | no p ↦ before-less (get_or s i 0) (get_or t i 0) _ _ (subst (λ j. get_or s j 0 < get_or t j 0) (let q : x.place ≡ i = omega (arith, x.from_here) in q) x.less)
      ]

  pub lt_of : (k : ℕ) → before (front k s) (front k t) ≡ true → Lt k s t
  lt_of k e = let x = to_less k 0 e in record { place = x.place; within = omega (arith, x.to_here); same = λ j h. x.same j (omega arith) h; less = x.less }

  pub of_lt : (k : ℕ) → Lt k s t → before (front k s) (front k t) ≡ true
  of_lt k x = of-less k 0 (record { place = x.place; from_here = omega arith; to_here = omega (arith, x.within); same = λ j g h. x.same j h; less = x.less })

  agree-from : (k i : ℕ) → ((j : ℕ) → j < i + k → get_or s j 0 ≡ get_or t j 0) → map (λ x. get_or s x 0) (from i k) ≡ map (λ x. get_or t x 0) (from i k)
  agree-from zero i f = refl
  agree-from (suc k) i f = ap₂ (λ a l. a ∷ l) (f i (omega arith)) (agree-from k (suc i) (λ j h. f j (omega arith)))

  pub agree_at : (k : ℕ) → Agree k s t → front k s ≡ front k t
  agree_at k f = agree-from k 0 (λ j h. f j (omega arith))

-- a search for what passes one test is a search for what passes another that is the same at every tuple
pub least-same : {k : ℕ} {p q : List ℕ → Bool} {v : List ℕ} {found : Bool} {r : List ℕ} → ((s : List ℕ) → p s ≡ q s) → LeastAfter k p v found r → LeastAfter k q v found r
least-same {r = r} e a = record {
  holds = λ f. sym (e r) ∙ a.holds f;
  after = a.after;
  least = λ f s h. a.least f s (e s ∙ h);
  none = λ f s h. a.none f s (e s ∙ h);
}

-- ── every tuple, in order ──

stack_at : (c : ℕ) (ts : List (List ℕ)) {x : List ℕ} → Memᴰ x (stack c ts) → (v : ℕ) × (t : List ℕ) × (v < c) × Memᴰ t ts × (x ≡ v ∷ t)
unfolding stack
stack_at zero ts h = absurd (Memᴰ.not-nil h)
stack_at (suc c) ts h =
    ⊎_elim (λ g. let r = stack_at c ts g in (r.0, r.1, omega (arith, r.2), r.3, r.4)) (λ g. let r = map_at (λ (t : List ℕ). c ∷ t) ts g in (c, r.0, omega arith, r.1, r.2))
    (Memᴰ.append_cases (stack c ts) h)

stack-rises : (c : ℕ) (ts : List (List ℕ)) → rises before ts ≡ true → rises before (stack c ts) ≡ true
unfolding stack rises
stack-rises zero ts e = refl
stack-rises (suc c) ts e =
    rises-append before (stack c ts) (map (λ (t : List ℕ). c ∷ t) ts) (stack-rises c ts e)
    (rises-map before (λ (t : List ℕ). c ∷ t) ts ∙ rises_so before (λ x y. before (c ∷ x) (c ∷ y)) ts (λ x y g h q. before_same c x y ∙ q) e)
    (λ x y g h.
    let a = stack_at c ts g in
    let b = map_at (λ (t : List ℕ). c ∷ t) ts h in
    ap₂ before a.4 b.2 ∙ before-less a.0 c a.1 b.0 a.2)

pub tuples-rise : (n k : ℕ) → rises before (tuples n k) ≡ true
unfolding tuples rises
tuples-rise n zero = refl
tuples-rise n (suc k) = stack-rises n (tuples n k) (tuples-rise n k)

pub tuples-long : (n k : ℕ) {x : List ℕ} → Memᴰ x (tuples n k) → length x ≡ k
unfolding tuples
tuples-long n zero h = ap length (Memᴰ.eq_of_singleton h)
tuples-long n (suc k) h = let r = stack_at n (tuples n k) h in ap length r.4 ∙ ap suc (tuples-long n k r.3)

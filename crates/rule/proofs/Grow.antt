-- The candidates of a kind rise in search order,
-- and they are the tuples of distinct vertices below n that are in least form.
-- Assumes nothing.
use Prim.Native.Nat.{ℕ, zero, suc, ◌+◌, ◌<◌}
use mathlib.Core.Path.{◌≡◌, refl, sym, ◌∙◌, ap, ap₂, subst}
use mathlib.Core.Bool.{Bool, true, false, not, ◌&&◌, true≢false}
use mathlib.Core.List.Memᴰ
use mathlib.Core.List.{List, [], ◌∷◌, ◌++◌, map, append_assoc, append-nil, Memᴰ}
use lib.Dec.{ltb}
use lib.ListN.{length, get_or, length-append}
use native.Mathlib.Omega.{arith}
use borrow.Author.Tests.{ltb-true, lt-ltb}
use Rattle.base.specs.Lists.{all, keep, up_to, is_in, distinct}
use Rattle.base.proofs.Lists.{both_left, both_right, all-at, all_from}
use Rattle.base.proofs.Members.{keep_at, keep-has, all_both, all_left, all_right, spread_at, spread-has, map_at, map-has, from_at, from-has}
use Rattle.templates.specs.Tables.{Placing}
use Rattle.templates.proofs.Tests.{both, at-is_in, distinct-at}
use Rattle.cells.specs.Full.{allowed, grow}
use Rattle.portions.specs.Portions.{before, rises}
use Rattle.rule.specs.between.Leaf.{placed_after}
use Rattle.portions.proofs.Order.{before-less, before_same, keep-rises, rises-spread, from-rises}

-- ── candidates rise ──

module _ (ok : Placing → List ℕ → ℕ → Bool) (n : ℕ) where
  -- each goes on from s, by a number for each place
  pub grow_shape : (ps : List Placing) (s : List ℕ) {t : List ℕ} → Memᴰ t (grow ok n ps s) → (u : List ℕ) × (t ≡ s ++ u) × (length u ≡ length ps)
  unfolding grow
  grow_shape [] s h = ([], Memᴰ.eq_of_singleton h ∙ sym (append-nil s), refl)
  grow_shape (p ∷ ps) s h =
      let r = spread_at (λ v. grow ok n ps (s ++ (v ∷ []))) (keep (ok p s) (up_to n)) h in
      let g = grow_shape ps (s ++ (r.0 ∷ [])) r.2 in
      (r.0 ∷ g.0, g.1 ∙ append_assoc s (r.0 ∷ []) g.0, ap suc g.2)

  before-append : (s : List ℕ) (v w : ℕ) (x y : List ℕ) → v < w → before (s ++ (v ∷ x)) (s ++ (w ∷ y)) ≡ true
  before-append [] v w x y h = before-less v w x y h
  before-append (a ∷ s) v w x y h = before_same a _ _ ∙ before-append s v w x y h

  pub grow-rises : (ps : List Placing) (s : List ℕ) → rises before (grow ok n ps s) ≡ true
  unfolding grow rises
  grow-rises [] s = refl
  grow-rises (p ∷ ps) s =
      rises-spread ltb before (λ v. grow ok n ps (s ++ (v ∷ []))) (keep (ok p s) (up_to n)) (keep-rises ltb (ok p s) (up_to n) (from-rises 0 n))
      (λ v. grow-rises ps (s ++ (v ∷ [])))
      (λ v w t u l g h.
      let a = grow_shape ps (s ++ (v ∷ [])) g in
      let b = grow_shape ps (s ++ (w ∷ [])) h in
      ap₂ before (a.1 ∙ append_assoc s (v ∷ []) a.0) (b.1 ∙ append_assoc s (w ∷ []) b.0) ∙ before-append s v w a.0 b.0 (ltb-true v w l))

-- ── which they are ──

-- the pairs of places at which the first must have the less, of places from i on
abbrev pub pairs_from : ℕ → List Placing → List (List ℕ)
pairs_from i [] = []
pairs_from i (p ∷ ps) = map (λ k. k ∷ i ∷ []) p.below ++ pairs_from (suc i) ps

-- each must be above earlier places alone
abbrev pub in_order : ℕ → List Placing → Bool
in_order i [] = true
in_order i (p ∷ ps) = all (λ k. ltb k i) p.below && in_order (suc i) ps

abbrev pub less_at : List ℕ → List ℕ → Bool
less_at w p = ltb (get_or w (get_or p 0 0) 0) (get_or w (get_or p 1 0) 0)

get_or-left : (s u : List ℕ) (k : ℕ) → k < length s → get_or (s ++ u) k 0 ≡ get_or s k 0
get_or-left [] u k h = absurd (let z : ⊥ = omega arith in z)
get_or-left (x ∷ s) u zero h = refl
get_or-left (x ∷ s) u (suc k) h = get_or-left s u k (omega arith)

get_or_here : (s : List ℕ) (v : ℕ) (u : List ℕ) → get_or (s ++ (v ∷ u)) (length s) 0 ≡ v
get_or_here [] v u = refl
get_or_here (x ∷ s) v u = get_or_here s v u

is_in-none : (v : ℕ) (s : List ℕ) → (is_in v s ≡ true → ⊥) → not (is_in v s) ≡ true
is_in-none v s f = go (is_in v s) refl
  where
    go : (b : Bool) → is_in v s ≡ b → not b ≡ true
    go true e = absurd (f e)
    go false e = refl

-- what comes at a place after s is new
new : (s : List ℕ) (v : ℕ) (u : List ℕ) → distinct (s ++ (v ∷ u)) ≡ true → not (is_in v s) ≡ true
new s v u d = is_in-none v s (λ e.
    let a = at-is_in s v e in
    let l : length (s ++ (v ∷ u)) ≡ length s + suc (length u) = length-append s (v ∷ u) in
    let q = distinct-at (s ++ (v ∷ u)) d a.0 (length s) (omega (arith, a.1)) (omega arith) (get_or-left s (v ∷ u) a.0 a.1 ∙ a.2 ∙ sym (get_or_here s v u)) in
    let z : ⊥ = omega (arith, a.1) in z)

module _ (n : ℕ) where
  -- a tuple of distinct vertices below n that is less at each pair is a candidate
  pub grow-has : (ps : List Placing) (s u : List ℕ) → length u ≡ length ps → all (λ v. ltb v n) u ≡ true → distinct (s ++ u) ≡ true → in_order (length s) ps ≡ true → all (less_at (s ++ u)) (pairs_from (length s) ps) ≡ true → Memᴰ (s ++ u) (grow allowed n ps s)
  unfolding grow allowed
  grow-has [] s [] l b d o e = Memᴰ.head (append-nil s)
  grow-has [] s (v ∷ u) l b d o e = absurd (let z : ⊥ = omega arith in z)
  grow-has (p ∷ ps) s [] l b d o e = absurd (let z : ⊥ = omega arith in z)
  grow-has (p ∷ ps) s (v ∷ u) l b d o e =
      let step : (s ++ (v ∷ [])) ++ u ≡ s ++ (v ∷ u) = append_assoc s (v ∷ []) u in
      let long : length (s ++ (v ∷ [])) ≡ suc (length s) = length-append s (v ∷ []) ∙ omega arith in
      spread-has (λ v. grow allowed n ps (s ++ (v ∷ []))) (keep (allowed p s) (up_to n))
      (keep-has (allowed p s) (up_to n) (from-has 0 n v (omega arith) (omega (arith, ltb-true v n (both_left _ _ b)))) (both _ _ (new s v u d) (all_from (λ k. ltb (get_or s k 0) v) p.below above)))
      (subst (λ w. Memᴰ w (grow allowed n ps (s ++ (v ∷ [])))) step
      (grow-has ps (s ++ (v ∷ [])) u (omega arith) (both_right (ltb v n) _ b) (ap distinct step ∙ d)
      (ap (λ i. in_order i ps) long ∙ both_right (all (λ k. ltb k (length s)) p.below) _ o)
      (ap₂ (λ w i. all (less_at w) (pairs_from i ps)) step long ∙ all_right (less_at (s ++ (v ∷ u))) (map (λ k. k ∷ length s ∷ []) p.below) _ e)))
    where
      above : (k : ℕ) → Memᴰ k p.below → ltb (get_or s k 0) v ≡ true
      above k h =
          let less = all-at (less_at (s ++ (v ∷ u))) (map (λ k. k ∷ length s ∷ []) p.below) (all_left (less_at (s ++ (v ∷ u))) (map (λ k. k ∷ length s ∷ []) p.below) _ e) (map-has (λ k. k ∷ length s ∷ []) p.below h) in
          ap₂ ltb (sym (get_or-left s (v ∷ u) k (ltb-true k (length s) (all-at (λ k. ltb k (length s)) p.below (both_left _ _ o) h)))) (sym (get_or_here s v u)) ∙ less

  -- and a candidate is less at each pair
  pub grow-less : (ps : List Placing) (s : List ℕ) {w : List ℕ} → in_order (length s) ps ≡ true → Memᴰ w (grow allowed n ps s) → all (less_at w) (pairs_from (length s) ps) ≡ true
  unfolding grow allowed
  grow-less [] s o h = refl
  grow-less (p ∷ ps) s {w} o h =
      let long : length (s ++ (r.0 ∷ [])) ≡ suc (length s) = length-append s (r.0 ∷ []) ∙ omega arith in
      all_both (less_at w) (map (λ k. k ∷ length s ∷ []) p.below) (pairs_from (suc (length s)) ps)
      (all_from (less_at w) (map (λ k. k ∷ length s ∷ []) p.below) (λ q g. let m = map_at (λ k. k ∷ length s ∷ []) p.below g in ap (less_at w) m.2 ∙ above m.0 m.1))
      (ap (λ i. all (less_at w) (pairs_from i ps)) (sym long) ∙ grow-less ps (s ++ (r.0 ∷ [])) (ap (λ i. in_order i ps) long ∙ both_right (all (λ k. ltb k (length s)) p.below) _ o) r.2)
    where
      r : (v : ℕ) × Memᴰ v (keep (allowed p s) (up_to n)) × Memᴰ w (grow allowed n ps (s ++ (v ∷ [])))
      r = spread_at (λ v. grow allowed n ps (s ++ (v ∷ []))) (keep (allowed p s) (up_to n)) h

      g : (u : List ℕ) × (w ≡ (s ++ (r.0 ∷ [])) ++ u) × (length u ≡ length ps)
      g = grow_shape allowed n ps (s ++ (r.0 ∷ [])) r.2

      is : w ≡ s ++ (r.0 ∷ g.0)
      is = g.1 ∙ append_assoc s (r.0 ∷ []) g.0

      above : (k : ℕ) → Memᴰ k p.below → ltb (get_or w k 0) (get_or w (length s) 0) ≡ true
      above k h =
          ap₂ ltb
          (ap (λ x. get_or x k 0) is ∙ get_or-left s (r.0 ∷ g.0) k (ltb-true k (length s) (all-at (λ k. ltb k (length s)) p.below (both_left _ _ o) h)))
          (ap (λ x. get_or x (length s) 0) is ∙ get_or_here s r.0 g.0)
          ∙ all-at (λ k. ltb (get_or s k 0) r.0) p.below (both_right (not (is_in r.0 s)) _ (keep_at (allowed p s) (up_to n) r.1).1) h

-- ── place by place ──

module _ (n : ℕ) where
  pub goes_has : (ps : List Placing) (s u : List ℕ) → placed_after n ps s u ≡ true → Memᴰ (s ++ u) (grow allowed n ps s)
  unfolding placed_after grow
  goes_has [] s [] e = Memᴰ.head (append-nil s)
  goes_has [] s (v ∷ u) e = absurd (true≢false (sym e))
  goes_has (p ∷ ps) s [] e = absurd (true≢false (sym e))
  goes_has (p ∷ ps) s (v ∷ u) e =
      let a = both_left (ltb v n) _ e in
      let b = both_right (ltb v n) _ e in
      spread-has (λ v. grow allowed n ps (s ++ (v ∷ []))) (keep (allowed p s) (up_to n))
      (keep-has (allowed p s) (up_to n) (from-has 0 n v (omega arith) (omega (arith, ltb-true v n a))) (both_left (allowed p s v) _ b))
      (subst (λ l. Memᴰ l (grow allowed n ps (s ++ (v ∷ [])))) (append_assoc s (v ∷ []) u) (goes_has ps (s ++ (v ∷ [])) u (both_right (allowed p s v) _ b)))

  pub has_goes : (ps : List Placing) (s : List ℕ) {t : List ℕ} → Memᴰ t (grow allowed n ps s) → (u : List ℕ) × (t ≡ s ++ u) × (placed_after n ps s u ≡ true)
  unfolding placed_after grow
  has_goes [] s h = ([], Memᴰ.eq_of_singleton h ∙ sym (append-nil s), refl)
  has_goes (p ∷ ps) s h =
      let r = spread_at (λ v. grow allowed n ps (s ++ (v ∷ []))) (keep (allowed p s) (up_to n)) h in
      let k = keep_at (allowed p s) (up_to n) r.1 in
      let g = has_goes ps (s ++ (r.0 ∷ [])) r.2 in
      (r.0 ∷ g.0, g.1 ∙ append_assoc s (r.0 ∷ []) g.0, rw (lt-ltb r.0 n (omega (arith, (from_at 0 n k.0).1)), k.1, g.2))

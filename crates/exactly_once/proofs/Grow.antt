-- The candidates: exactly the tuples of distinct vertices below n that keep the rules of the least form, each once.
-- Assumes nothing.
use Prim.Native.Nat.{ℕ, zero, suc, ◌<◌, ◌≤◌}
use mathlib.Core.Path.{◌≡◌, refl, sym, ◌∙◌, ap, ap₂}
use mathlib.Core.Logic.{◌⊎◌, inl, inr, ⊎_elim}
use mathlib.Core.Bool.{Bool, true, false, not, cond, ◌&&◌, false≢true}
use mathlib.Core.List.Memᴰ
use mathlib.Core.List.{List, [], ◌∷◌, ◌++◌, map, append_assoc, append-nil, Memᴰ}
use lib.Dec.{eqb, ltb}
use native.Mathlib.Omega.{arith}
use borrow.Author.Tests.{ltb-true, lt-ltb, not-true, eqb-false, ne_eqb}
use Rattle.base.specs.Lists.{all, keep, spread, from, up_to}
use Rattle.templates.specs.Tables.{Placing}
use Rattle.cells.specs.Full.{grow}
use Rattle.base.proofs.Lists.{both_left, both_right, all-at, all_from, keep-spread, spread-keep}
use Rattle.base.proofs.Members.{from_at, from-has}
use Rattle.templates.proofs.Tests.{both}
use Rattle.least.proofs.OneLeast.{pairwise, keep-none}

-- ---- members

module _ {A B : Type 0} where
  pub mem_map : (f : A → B) (xs : List A) {y : B} → Memᴰ y (map f xs) → (x : A) × Memᴰ x xs × (y ≡ f x)
  mem_map f [] {y = y} x' = elim x' [ ]
  mem_map f (x ∷ xs) (Memᴰ.head q) = (x, Memᴰ.head refl, q)
  mem_map f (x ∷ xs) (Memᴰ.tail h) = let w = mem_map f xs h in (w.0, Memᴰ.tail w.1, w.2)

  pub mem_spread : (f : A → List B) (xs : List A) {y : B} → Memᴰ y (spread f xs) → (x : A) × Memᴰ x xs × Memᴰ y (f x)
  unfolding spread
  mem_spread f [] h = elim h [ ]
  mem_spread f (x ∷ xs) {y} h = go (mem_spread f xs) (Memᴰ.append_cases (f x) h)
    where
      go : (Memᴰ y (spread f xs) → (x : A) × Memᴰ x xs × Memᴰ y (f x)) → Memᴰ y (f x) ⊎ Memᴰ y (spread f xs) → (z : A) × Memᴰ z (x ∷ xs) × Memᴰ y (f z)
      go r (inl k) = (x, Memᴰ.head refl, k)
      go r (inr k) = let w = r k in (w.0, Memᴰ.tail w.1, w.2)

  -- the results at one element, where there are none at the others
  pub spread-only : (f : A → List B) (g : A → A → Bool) (xs : List A) → pairwise g xs ≡ true → {x : A} → Memᴰ x xs → ((y : A) → Memᴰ y xs → (g x y ≡ true) ⊎ (g y x ≡ true) → f y ≡ []) → spread f xs ≡ f x
  unfolding spread pairwise
  spread-only f g [] e {x = x} x5 n = elim x5 [ ]
  spread-only f g (y ∷ ys) e (Memᴰ.head q) n =
      ap₂ (λ a b. a ++ b) (ap f (sym q)) (none ys (λ z h. n z (Memᴰ.tail h) (inl (ap (λ w. g w z) q ∙ all-at (g y) ys (both_left _ _ e) h))))
      ∙ append-nil _
    where
      none : (zs : List A) → ((z : A) → Memᴰ z zs → f z ≡ []) → spread f zs ≡ []
      none [] h = refl
      none (z ∷ zs) h = rw (h z (Memᴰ.head refl), none zs (λ w k. h w (Memᴰ.tail k)))
  spread-only f g (y ∷ ys) e {x} (Memᴰ.tail k) n =
      ap (λ a. a ++ spread f ys) (n y (Memᴰ.head refl) (inr (all-at (g y) ys (both_left _ _ e) k)))
      ∙ spread-only f g ys (both_right (all (g y) ys) _ e) k (λ z h. n z (Memᴰ.tail h))

module _ {A : Type 0} (p : A → Bool) where
  pub mem_keep : (xs : List A) {x : A} → Memᴰ x (keep p xs) → Memᴰ x xs × (p x ≡ true)
  unfolding keep
  mem_keep [] h = elim h [ ]
  mem_keep (y ∷ ys) {x} h = go (p y) refl h (mem_keep ys)
    where
      go : (b : Bool) → p y ≡ b → Memᴰ x (cond b (y ∷ keep p ys) (keep p ys)) → (Memᴰ x (keep p ys) → Memᴰ x ys × (p x ≡ true)) → Memᴰ x (y ∷ ys) × (p x ≡ true)
      go true q h r = ⊎_elim (λ w. (Memᴰ.head w, ap p w ∙ q)) (λ k. let z = r k in (Memᴰ.tail z.0, z.1)) (Memᴰ.cases_cons h)
      go false q h r = let z = r h in (Memᴰ.tail z.0, z.1)

  pub keep_mem : (xs : List A) {x : A} → Memᴰ x xs → p x ≡ true → Memᴰ x (keep p xs)
  unfolding keep
  keep_mem [] {x = x} x4 e = elim x4 [ ]
  keep_mem (y ∷ ys) (Memᴰ.head q) e = rw (ap p (sym q) ∙ e) (Memᴰ.head q)
  keep_mem (y ∷ ys) {x} (Memᴰ.tail h) e = go (p y) (keep_mem ys h e)
    where
      go : (b : Bool) → Memᴰ x (keep p ys) → Memᴰ x (cond b (y ∷ keep p ys) (keep p ys))
      go true k = Memᴰ.tail k
      go false k = k

  pub keep-keep : (q : A → Bool) (xs : List A) → keep p (keep q xs) ≡ keep (λ x. q x && p x) xs
  unfolding keep
  keep-keep q [] = refl
  keep-keep q (x ∷ xs) = go (q x) (keep-keep q xs)
    where
      go : (a : Bool) {l : List A} → keep p (keep q xs) ≡ l → keep p (cond a (x ∷ keep q xs) (keep q xs)) ≡ cond (a && p x) (x ∷ l) l
      go true e = ap (λ l. cond (p x) (x ∷ l) l) e
      go false e = e

differ : ℕ → ℕ → Bool
differ x y = not (eqb x y)

from_above : (i k j : ℕ) → Memᴰ j (from i k) → i ≤ j
from_above i zero j x' = elim x' [ ]
from_above i (suc k) j (Memᴰ.head q) = omega arith
from_above i (suc k) j (Memᴰ.tail h) = let e = from_above (suc i) k j h in omega arith

from-apart : (i k : ℕ) → pairwise differ (from i k) ≡ true
unfolding pairwise differ
from-apart i zero = refl
from-apart i (suc k) =
    both _ _ (all_from (differ i) (from (suc i) k) (λ y h. ap not (ne_eqb i y (λ q. let e = from_above (suc i) k y h in omega arith)))) (from-apart (suc i) k)

-- ---- the tuples that grow

module _ (ok : Placing → List ℕ → ℕ → Bool) (n : ℕ) where
  -- u goes on from s: each of its vertices is below n and may come at its place
  unfoldable pub fits : List Placing → List ℕ → List ℕ → Bool
  fits [] s [] = true
  fits [] s (v ∷ u) = false
  fits (p ∷ ps) s [] = false
  fits (p ∷ ps) s (v ∷ u) = ltb v n && ok p s v && fits ps (s ++ (v ∷ [])) u

  pub grow_mem : (ps : List Placing) (s : List ℕ) {x : List ℕ} → Memᴰ x (grow ok n ps s) → (u : List ℕ) × (x ≡ s ++ u) × (fits ps s u ≡ true)
  unfolding grow fits
  grow_mem [] s h = ([], Memᴰ.eq_of_singleton h ∙ sym (append-nil s), refl)
  grow_mem (p ∷ ps) s h =
      let v = mem_spread (λ v. grow ok n ps (s ++ (v ∷ []))) (keep (ok p s) (up_to n)) h in
      let k = mem_keep (ok p s) (up_to n) v.1 in
      let r = grow_mem ps (s ++ (v.0 ∷ [])) v.2 in
      (v.0 ∷ r.0, r.1 ∙ append_assoc s (v.0 ∷ []) r.0, both _ _ (both _ _ (lt-ltb v.0 n (omega (arith, (from_at 0 n k.0).1))) k.1) r.2)

  pub grow-once : (P : List ℕ → Bool) (ps : List Placing) (s u : List ℕ) → fits ps s u ≡ true → P (s ++ u) ≡ true → ((x : List ℕ) → fits ps s x ≡ true → P (s ++ x) ≡ true → x ≡ u) → keep P (grow ok n ps s) ≡ (s ++ u) ∷ []
  unfolding grow fits keep differ
  grow-once P [] s [] f e one = ap (λ b. cond b (s ∷ []) []) (ap P (sym (append-nil s)) ∙ e) ∙ ap (λ x. x ∷ []) (sym (append-nil s))
  grow-once P [] s (v ∷ u) f e one = absurd (false≢true f)
  grow-once P (p ∷ ps) s [] f e one = absurd (false≢true f)
  grow-once P (p ∷ ps) s (v ∷ u) f e one =
      keep-spread P (λ w. grow ok n ps (s ++ (w ∷ []))) (keep (ok p s) (up_to n))
      ∙ spread-keep (λ w. keep P (grow ok n ps (s ++ (w ∷ [])))) (ok p s) (up_to n)
      ∙ spread-only found differ (up_to n) (from-apart 0 n) (from-has 0 n v (omega arith) (omega (arith, ltb-true v n (both_left _ _ g)))) none
      ∙ ap (λ b. cond b (keep P (grow ok n ps (s ++ (v ∷ [])))) []) (both_right (ltb v n) _ g)
      ∙ grow-once P ps (s ++ (v ∷ [])) u (both_right (ltb v n && ok p s v) _ f) (ap P (append_assoc s (v ∷ []) u) ∙ e)
      (λ x h q. let z = one (v ∷ x) (both _ _ g h) (ap P (sym (append_assoc s (v ∷ []) x)) ∙ q) in cc)
      ∙ ap (λ x. x ∷ []) (append_assoc s (v ∷ []) u)
    where
      g : (ltb v n && ok p s v) ≡ true
      g = both_left _ _ f

      found : ℕ → List (List ℕ)
      found w = cond (ok p s w) (keep P (grow ok n ps (s ++ (w ∷ [])))) []

      other : (w : ℕ) → w < n → (w ≡ v → ⊥) → (b : Bool) → ok p s w ≡ b → cond b (keep P (grow ok n ps (s ++ (w ∷ [])))) [] ≡ []
      other w h d true q =
          keep-none P (grow ok n ps (s ++ (w ∷ []))) (λ x k t.
          let r = grow_mem ps (s ++ (w ∷ [])) k in
          let z = one (w ∷ r.0) (both _ _ (both _ _ (lt-ltb w n h) q) r.2) (ap P (sym (r.1 ∙ append_assoc s (w ∷ []) r.0)) ∙ t) in
          d (cc))
      other w h d false q = refl

      apart : (w : ℕ) → (differ v w ≡ true) ⊎ (differ w v ≡ true) → w ≡ v → ⊥
      apart w (inl q) z = eqb-false v w (not-true (eqb v w) q) (sym z)
      apart w (inr q) z = eqb-false w v (not-true (eqb w v) q) z

      none : (w : ℕ) → Memᴰ w (up_to n) → (differ v w ≡ true) ⊎ (differ w v ≡ true) → found w ≡ []
      none w k d = other w (omega (arith, (from_at 0 n k).1)) (apart w d) (ok p s w) refl

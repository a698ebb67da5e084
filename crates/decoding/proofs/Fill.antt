-- A loop that fills a lent slice from its first entry on: entry k is f k. Assumes nothing.
use mathlib.Core.Path.{◌≡◌, sym, ◌∙◌}
use mathlib.Core.List.{List, map}
use Prim.Native.Nat.{ℕ, ◌+◌, ◌*◌, ◌≤◌, ◌<◌}
use native.Mathlib.Nat.{eq-or-lt_of_le}
use native.Mathlib.Omega.{arith}
use mathlib.Core.Logic.{◌⊎◌, inl, inr}
use lib.ListN.{length, get_or, set, length-set}
use lib.Seq.{get_or-set_same, get_or-set_other, ext_get_or}
use Rattle.base.specs.Lists.{up_to}
use Rattle.base.proofs.Loop.{get_or-up, length_up}

-- of n entries the first i are filled
pub record Filled {A : Type 0} (f : ℕ → A) (d : A) (n i : ℕ) (l : List A) : Type 0 where
  pub low : i ≤ n
  pub same : length l ≡ n
  pub done : (k : ℕ) → k < i → get_or l k d ≡ f k

module _ {A : Type 0} {f : ℕ → A} {d : A} where
  pub fill_start : (l : List A) → Filled f d (length l) 0 l
  fill_start l = record { low = omega arith; same = omega arith; done = λ k h. absurd (omega arith) }

  pub fill-next : {n i : ℕ} {l : List A} (a : A) → Filled f d n i l → i < n → a ≡ f i → Filled f d n (i + 1) (set l i a)
  fill-next {n} {i} {l} a p h e = record {
    low = omega arith;
    same = length-set l i a ∙ p.same;
    done = λ k g. at k (eq-or-lt_of_le {n = k} {m = i} (omega arith));
  }
    where
      at : (k : ℕ) → (k ≡ i) ⊎ (k < i) → get_or (set l i a) k d ≡ f k
      at k (inl q) = rw q (get_or-set_same l i a d (omega (arith, p.same)) ∙ e)
      at k (inr s) = get_or-set_other l i k a d (λ q. omega arith) ∙ p.done k s

  -- four entries more
  pub fill-four : {n : ℕ} (j : ℕ) {l : List A} (x y z w : A) → Filled f d n (4 * j) l → 4 * j + 3 < n → x ≡ f (4 * j) → y ≡ f (4 * j + 1) → z ≡ f (4 * j + 2) → w ≡ f (4 * j + 3) → Filled f d n (4 * (j + 1)) (set (set (set (set l (4 * j) x) (4 * j + 1) y) (4 * j + 2) z) (4 * j + 3) w)
  fill-four {n} j x y z w p h e0 e1 e2 e3 =
      let a = fill-next x p (omega arith) e0 in
      let b = go (4 * j + 1 + 1) (4 * j + 2) (omega arith) (fill-next y a (omega arith) e1) in
      let c = go (4 * j + 2 + 1) (4 * j + 3) (omega arith) (fill-next z b (omega arith) e2) in
      go (4 * j + 3 + 1) (4 * (j + 1)) (omega arith) (fill-next w c (omega arith) e3)
    where
      go : (i k : ℕ) {m : List A} → i ≡ k → Filled f d n i m → Filled f d n k m
      go i k q s = rw q at s

  pub fill_done : {n i : ℕ} {l : List A} → Filled f d n i l → n ≤ i → l ≡ map f (up_to n)
  fill_done {n} {i} {l} p h =
      ext_get_or d l (map f (up_to n)) (p.same ∙ sym (length_up f n))
      (λ k g. p.done k (omega (arith, p.same)) ∙ sym (get_or-up f d n k (omega (arith, p.same))))

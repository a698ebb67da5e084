-- The trial's rule keeps to the laws, so demand 3 holds of it.
-- Assumes nothing.
use Prim.Native.Nat.{ℕ, ◌%◌, ◌<◌, ◌≤◌}
use mathlib.Core.Path.{◌≡◌, refl, sym}
use mathlib.Core.Logic.{inl, inr, ⊎_elim}
use mathlib.Core.Bool.{Bool, true, false, true≢false}
use mathlib.Core.List.{[], ◌∷◌, Memᴰ}
use lib.Dec.{ltb}
use native.Mathlib.Omega.{arith}
use native.Mathlib.Decide.{dec_lt}
use borrow.Author.Tests.{ltb-true, eqb-true}
use Rattle.base.specs.Lists.{up_to}
use Rattle.base.proofs.Lists.{all_from}
use Rattle.base.proofs.Members.{keep_at, keep-has, keep_all, keep-none, from_at, from-has}
use Rattle.portions.specs.Portions.{before, is_after, after, Lawful}
use Rattle.portions.specs.Run.{Demand3Over}
use Rattle.portions.specs.between.Steps.{Next}
use Rattle.portions.proofs.Order.{before-less, before_cases, keep-rises, rises_so, from-rises}
use Rattle.portions.proofs.Run.{demand3}
use Rattle.small_rules.specs.between.Trial.{trial_rule, is_trial, trials}

module _ (n : ℕ) (small : n ≤ 65535) where
  pub trials-at : {c : ℕ} → Memᴰ c (trials n) → (c < n) × (is_trial c ≡ true)
  unfolding trials
  trials-at h = let k = keep_at is_trial (up_to n) h in (omega (arith, (from_at 0 n k.0).1), k.1)

  pub trials-has : (c : ℕ) → c < n → is_trial c ≡ true → Memᴰ c (trials n)
  unfolding trials
  trials-has c h e = keep-has is_trial (up_to n) (from-has 0 n c (omega arith) (omega arith)) e

  pub after-of : (k c : ℕ) → k < c → is_after trial_rule (k ∷ []) c ≡ true
  unfolding is_after
  after-of k c h = before-less k c [] [] h

  pub of-after : (k c : ℕ) → is_after trial_rule (k ∷ []) c ≡ true → k < c
  unfolding is_after before
  of-after k c e = ⊎_elim (λ l. l) (λ l. absurd (true≢false (sym l.1))) (before_cases k c [] [] e)

  above : {c : ℕ} → is_trial c ≡ true → 0 < c
  above {c} e = omega (arith, eqb-true (c % 3) 1 e)

  pub lawful : Lawful trial_rule (trials n)
  unfolding after trials
  lawful = record {
    some = omega arith;
    sized = λ c h f. refl;
    rising = keep-rises (λ c d. is_after trial_rule (c ∷ []) d) is_trial (up_to n) (rises_so ltb (λ c d. is_after trial_rule (c ∷ []) d) (up_to n) (λ c d g h e. after-of c d (ltb-true c d e)) (from-rises 0 n));
    started = keep_all (is_after trial_rule (0 ∷ [])) (trials n) (all_from (is_after trial_rule (0 ∷ [])) (trials n) (λ c h. after-of 0 c (above (trials-at h).1)));
    ended = keep-none (is_after trial_rule (65535 ∷ [])) (trials n) (λ c h. ends c (trials-at h).0 _ refl);
  }
    where
      ends : (c : ℕ) → c < n → (b : Bool) → is_after trial_rule (65535 ∷ []) c ≡ b → b ≡ false
      ends c h true e = absurd (let z : ⊥ = omega (arith, of-after 65535 c e) in z)
      ends c h false e = refl

  pub trials_demand3 : Demand3Over trial_rule (trials n)
  trials_demand3 = demand3 trial_rule (trials n) lawful

  -- ── the next cell ──

  pub next_yes : (k c : ℕ) → k < c → c < n → is_trial c ≡ true → ((d : ℕ) → k < d → d < c → is_trial d ≡ true → ⊥) → Next trial_rule (trials n) (k ∷ []) true c
  next_yes k c h l e f = record {
    among = λ t. trials-has c l e;
    later = λ t. after-of k c h;
    least = λ t d g i. elim (dec_lt c d) [
      | yes p ↦ inr (after-of c d p)
      | no p ↦ elim (dec_lt d c) [ yes q ↦ absurd (f d (of-after k d i) q (trials-at g).1) | no q ↦ inl (let z : d ≡ c = omega arith in z) ]
    ];
    none = λ t. absurd (true≢false t);
  }

  pub next-no : (k c : ℕ) → ((d : ℕ) → k < d → d < n → is_trial d ≡ true → ⊥) → Next trial_rule (trials n) (k ∷ []) false c
  next-no k c f = record {
    among = λ t. absurd (true≢false (sym t));
    later = λ t. absurd (true≢false (sym t));
    least = λ t. absurd (true≢false (sym t));
    none = λ t d g i. f d (of-after k d i) (trials-at g).0 (trials-at g).1;
  }

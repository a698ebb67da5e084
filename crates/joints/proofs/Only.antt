-- A loop that looks for the only place at which a test passes. Assumes nothing.
use mathlib.Core.Path.{◌≡◌, refl, sym, ◌∙◌, ap}
use mathlib.Core.Bool.{Bool, true, false, cond}
use mathlib.Core.List.{List, [], ◌∷◌, ◌++◌, append-nil}
use Prim.Native.Nat.{ℕ, ◌+◌, ◌-◌, ◌≤◌, ◌<◌}
use native.Mathlib.Decide.{dec_lt}
use native.Mathlib.Omega.{arith}
use borrow.Author.Tests.{lt-ltb, le-ltb}
use lib.Dec.{ltb}
use Rattle.base.specs.Lists.{keep, from, up_to}
use Rattle.base.proofs.Lists.{keep_append}
use Rattle.base.proofs.Runs.{from-add, up_to-more}
use Rattle.joints.specs.between.Joints.{only}

-- the place found; none where it is 4
abbrev pub held : ℕ → List ℕ
held f = cond (ltb f 4) (f ∷ []) []

-- of the first i places just the one found passes, or none
pub record Sole (q : ℕ → Bool) (i f : ℕ) : Type 0 where
  pub low : i ≤ 4
  pub most : f ≤ 4
  pub kept : keep q (up_to i) ≡ held f

-- one place more
more : (q : ℕ → Bool) (i : ℕ) {b : Bool} → q i ≡ b → keep q (up_to (i + 1)) ≡ keep q (up_to i) ++ cond b (i ∷ []) []
unfolding keep
more q i e = ap (keep q) (up_to-more i) ∙ keep_append q (up_to i) (i ∷ []) ∙ ap (λ b. keep q (up_to i) ++ cond b (i ∷ []) []) e

module _ {q : ℕ → Bool} where
  pub sole-start : Sole q 0 4
  unfolding keep
  sole-start = record { low = omega arith; most = omega arith; kept = refl }

  module _ {i f : ℕ} (s : Sole q i f) (h : i < 4) where
    pub sole-past : q i ≡ false → Sole q (i + 1) f
    sole-past e = record { low = omega arith; most = s.most; kept = more q i e ∙ append-nil (keep q (up_to i)) ∙ s.kept }

    pub sole-found : q i ≡ true → 4 ≤ f → Sole q (i + 1) i
    sole-found e l = record {
      low = omega arith;
      most = omega arith;
      kept = more q i e ∙ ap (λ xs. xs ++ i ∷ []) s.kept ∙ rw (le-ltb f 4 l, lt-ltb i 4 h);
    }

    -- a second one
    pub sole-twice : q i ≡ true → f < 4 → 4 ≡ only (keep q (up_to 4))
    sole-twice e l =
        let n : 4 ≡ i + 1 + (3 - i) = omega arith in
        let rest = keep q (from (0 + (i + 1)) (3 - i)) in
        let a = ap (λ k. keep q (up_to k)) n ∙ ap (keep q) (from-add 0 (i + 1) (3 - i)) ∙ keep_append q (up_to (i + 1)) (from (0 + (i + 1)) (3 - i)) in
        let b : keep q (up_to (i + 1)) ≡ f ∷ i ∷ [] = more q i e ∙ ap (λ xs. xs ++ i ∷ []) s.kept ∙ rw (lt-ltb f 4 l) in
        sym (ap only (a ∙ ap (λ xs. xs ++ rest) b))

  pub sole-done : {i f : ℕ} → Sole q i f → 4 ≤ i → f ≡ only (keep q (up_to 4))
  sole-done {i} {f} s h =
      let n : i ≡ 4 = omega (arith, s.low) in
      let a : keep q (up_to 4) ≡ held f = ap (λ k. keep q (up_to k)) (sym n) ∙ s.kept in
      elim (dec_lt f 4) [
        | yes l ↦ let b : held f ≡ f ∷ [] = rw (lt-ltb f 4 l) in sym (ap only (a ∙ b))
        | no l ↦ let z : f ≡ 4 = omega (arith, s.most) in z ∙ sym (ap only (a ∙ ap held z))
      ]

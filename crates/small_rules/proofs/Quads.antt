-- The rule of quadrilaterals keeps to the laws, so demand 3 holds of it too, and a record tells its quadrilateral.
-- Assumes nothing.
use Prim.Native.Nat.{ℕ, suc, ◌+◌}
use mathlib.Core.Path.{◌≡◌, refl, sym, ◌∙◌, ap, ap₂}
use mathlib.Core.Logic.{⊎_elim}
use mathlib.Core.Bool.{Bool, true, false}
use mathlib.Core.List.{List, [], ◌∷◌, Memᴰ}
use lib.ListN.{length, length-append}
use native.Mathlib.Omega.{arith}
use Rattle.base.specs.Lists.{keep}
use Rattle.base.proofs.Lists.{all_from}
use Rattle.base.proofs.Loop.{listed}
use Rattle.base.proofs.Members.{keep_at, keep_all, keep-none, map_at}
use Rattle.portions.specs.Portions.{before, is_after, after, Lawful, Telling}
use Rattle.portions.specs.Run.{Demand3Over}
use Rattle.portions.specs.between.Tuples.{front, tuples}
use Rattle.portions.proofs.Order.{before-less, before_same, before_cases, keep-rises, rises_so, rises-map}
use Rattle.portions.proofs.Run.{demand3}
use Rattle.portions.proofs.Tuples.{tuples-rise, tuples-long}
use Rattle.small_rules.specs.between.Quads.{Quad, quad_key, quad_rule, quad_of, quad_list}

module _ (n : ℕ) (isQuad : List ℕ → Bool) (f s p : List ℕ → ℕ) where
  quad_at : List ℕ → Quad
  quad_at c = record { corners = c; first = f c; second = s c; part = p c }

  quads-at : {q : Quad} → Memᴰ q (quad_list n isQuad f s p) → length q.corners ≡ 4
  unfolding quad_list quad_at
  quads-at h =
      let r = map_at (λ c. quad_at c) (keep isQuad (tuples n 4)) h in
      ap (λ q. length q.corners) r.2 ∙ tuples-long n 4 (keep_at isQuad (tuples n 4) r.1).0

  whole : (c : List ℕ) → length c ≡ 4 → front 4 c ≡ c
  whole c e = ap (λ k. front k c) (sym e) ∙ listed 0 c

  pub quads_lawful : Lawful quad_rule (quad_list n isQuad f s p)
  unfolding after is_after quad_key quad_list quad_at
  quads_lawful = record {
    some = omega arith;
    sized = λ q h e. ap suc (length-append q.corners _ ∙ ap (λ i. i + 3) (quads-at h));
    rising =
        rises-map (λ c d. is_after quad_rule (quad_rule.mark c) d) quad_at (keep isQuad (tuples n 4))
        ∙ keep-rises (λ c d. is_after quad_rule (4 ∷ c) (quad_at d)) isQuad (tuples n 4)
        (rises_so before (λ c d. is_after quad_rule (4 ∷ c) (quad_at d)) (tuples n 4)
        (λ c d g h e. ap₂ (λ x y. before (65531 ∷ x) (65531 ∷ y)) (whole c (tuples-long n 4 g)) (whole d (tuples-long n 4 h)) ∙ before_same 65531 c d ∙ e)
        (tuples-rise n 4));
    started = keep_all (is_after quad_rule quad_rule.start) (quad_list n isQuad f s p) (all_from (is_after quad_rule quad_rule.start) (quad_list n isQuad f s p) (λ q h. before-less 0 65531 _ _ (omega arith)));
    ended = keep-none (is_after quad_rule quad_rule.end) (quad_list n isQuad f s p) (λ q h. ends q _ refl);
  }
    where
      ends : (q : Quad) (b : Bool) → is_after quad_rule quad_rule.end q ≡ b → b ≡ false
      ends q true e = ⊎_elim (λ l. absurd (let z : ⊥ = omega arith in z)) (λ l. absurd (let z : ⊥ = omega arith in z)) (before_cases 65535 65531 _ (front 4 q.corners) e)
      ends q false e = refl

  pub quads_demand3 : Demand3Over quad_rule (quad_list n isQuad f s p)
  quads_demand3 = demand3 quad_rule (quad_list n isQuad f s p) quads_lawful

  pub quads_telling : Telling quad_rule (quad_list n isQuad f s p)
  unfolding quad_of
  quads_telling = record { cell_of = quad_of; tells = λ q h e. told q.corners q.first q.second q.part (quads-at h) }
    where
      told : (c : List ℕ) (x y z : ℕ) → length c ≡ 4 → quad_of (quad_rule.entries (record { corners = c; first = x; second = y; part = z })) ≡ record { corners = c; first = x; second = y; part = z }
      told (a ∷ b ∷ c ∷ d ∷ []) x y z e = refl
      told [] x y z e = absurd (let w : ⊥ = omega arith in w)
      told (a ∷ []) x y z e = absurd (let w : ⊥ = omega arith in w)
      told (a ∷ b ∷ []) x y z e = absurd (let w : ⊥ = omega arith in w)
      told (a ∷ b ∷ c ∷ []) x y z e = absurd (let w : ⊥ = omega arith in w)
      told (a ∷ b ∷ c ∷ d ∷ g ∷ r) x y z e = absurd (let w : ⊥ = omega arith in w)

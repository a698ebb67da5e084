-- The mirror tuple negates every corner box, so at most one hand is sound.
-- Assumes nothing.
use Prim.Native.Nat.{ℕ, zero, suc}
use mathlib.Core.Path.{◌≡◌, refl, sym, ◌∙◌, ap}
use mathlib.Core.Bool.{true, false≢true}
use mathlib.Core.List.{List, Memᴰ}
use lib.IntN.{ℤ, pos, negsuc, neg_ℤ}
use Rattle.base.specs.Lists.{all, any, every}
use Rattle.base.proofs.Lists.{both_left, both_right, all-at, any_at}
use Rattle.space.specs.Box.{is_above0}
use Rattle.space.specs.Mesh.{Mesh}
use Rattle.templates.specs.Tables.{Template, templates, at}
use Rattle.templates.proofs.Tests.{part, covers}
use Rattle.least.proofs.Turns.{corner_to, odd, table_tests, mirrored}
use Rattle.cells.specs.Cells.{box_at, is_sound}
use Rattle.exactly_once.specs.Turned.{Mirrored}
use Rattle.exactly_once.proofs.Turned.{mirror-at}

pub has_corners : all (λ t. any (λ ks. true) t.triples) templates ≡ true
has_corners = refl

not_both_above : (x : ℤ) → is_above0 x ≡ true → is_above0 (neg_ℤ x) ≡ true → ⊥
not_both_above (pos zero) e f = false≢true e
not_both_above (pos (suc n)) e f = false≢true f
not_both_above (negsuc n) e f = false≢true e

module _ (m : Mesh) {t : Template} (member : Memᴰ t templates) (c : List ℕ) where
  tested : covers (corner_to odd t.mirror) t.triples t.triples ≡ true
  unfolding table_tests
  tested = part (table_tests odd t t.mirror) (all-at (λ t. every (table_tests odd t t.mirror)) templates mirrored member) 4

  -- each corner box of the mirror tuple is one of the tuple's, negated
  mirror-box : {ks : List ℕ} → Memᴰ ks t.triples → (js : List ℕ) × Memᴰ js t.triples × (box_at m (at (at c t.mirror) ks) ≡ neg_ℤ (box_at m (at c js)))
  unfolding covers
  mirror-box {ks} h =
      let w = any_at (corner_to odd t.mirror ks) t.triples (all-at (λ ks. any (corner_to odd t.mirror ks) t.triples) t.triples (both_left _ _ tested) h) in
      (w.0, w.1, mirror-at t.mirror c m ks w.0 w.2)

  -- each corner box of the tuple, negated, is one of the mirror tuple's
  box_mirrored : {js : List ℕ} → Memᴰ js t.triples → (ks : List ℕ) × Memᴰ ks t.triples × (box_at m (at (at c t.mirror) ks) ≡ neg_ℤ (box_at m (at c js)))
  unfolding covers
  box_mirrored {js} h =
      let w = any_at (λ ks. corner_to odd t.mirror ks js) t.triples (all-at (λ js. any (λ ks. corner_to odd t.mirror ks js) t.triples) t.triples (both_right (all (λ ks. any (corner_to odd t.mirror ks) t.triples) t.triples) _ tested) h) in
      (w.0, w.1, mirror-at t.mirror c m w.0 js w.2)

  -- not both hands are sound
  one-hand : is_sound m t c ≡ true → is_sound m t (at c t.mirror) ≡ true → ⊥
  unfolding is_sound
  one-hand e f =
      let k = any_at (λ (ks : List ℕ). true) t.triples (all-at (λ t. any (λ ks. true) t.triples) templates has_corners member) in
      let w = mirror-box k.1 in
      not_both_above (box_at m (at c w.0)) (all-at (λ ks. is_above0 (box_at m (at c ks))) t.triples e w.1)
      (sym (ap is_above0 w.2) ∙ all-at (λ ks. is_above0 (box_at m (at (at c t.mirror) ks))) t.triples f k.1)

  pub mirror : Mirrored m t c
  mirror = record { negated = mirror-box; reached = box_mirrored; one_hand = one-hand }

-- What follows for the tetrahedra where no refusal from 5 to 9 applies.
-- Assumes nothing.
use mathlib.Core.Path.{◌≡◌, refl, ap}
use mathlib.Core.Bool.{Bool, true, false, not, ◌&&◌, ◌||◌, false≢true}
use mathlib.Core.List.{List, [], ◌∷◌}
use Prim.Native.Nat.{ℕ, ◌+◌, ◌*◌, ◌/◌, ◌≤◌, ◌<◌}
use native.Mathlib.Omega.{arith}
use lib.Dec.{eqb}
use lib.IntN.{ℤ}
use lib.ListN.{length, get_or}
use borrow.Author.Tests.{leb-false, not-false, eqb-true, ne_eqb}
use Rattle.base.specs.Lists.{any, is_in}
use Rattle.space.specs.Box.{is_above0}
use Rattle.space.specs.Arrays.{row4}
use Rattle.tets_around.specs.between.Index.{Labelled}
use Rattle.tets_around.specs.Sharing.{has_all, sharers}
use Rattle.tets_around.proofs.Rows.{or_left, or_right}
use Rattle.tets.specs.Tets.{box_in, flat, any_flat}
use Rattle.tets.proofs.Labelled.{none-at}
use Rattle.facets.specs.Facets.{some_facet, opposite, full, crowded, astray, clashes, clashing, folded, any_crowded, any_folded}

-- P at each facet of tetrahedron e: at the fourth vertex, then the facet's three
pub record AtFacets (P : ℕ → ℕ → ℕ → ℕ → Type 0) (ls : List ℕ) (e : ℕ) : Type 0 where
  pub facet0 : P (get_or ls (4 * e) 0) (get_or ls (4 * e + 1) 0) (get_or ls (4 * e + 2) 0) (get_or ls (4 * e + 3) 0)
  pub facet1 : P (get_or ls (4 * e + 1) 0) (get_or ls (4 * e) 0) (get_or ls (4 * e + 2) 0) (get_or ls (4 * e + 3) 0)
  pub facet2 : P (get_or ls (4 * e + 2) 0) (get_or ls (4 * e) 0) (get_or ls (4 * e + 1) 0) (get_or ls (4 * e + 3) 0)
  pub facet3 : P (get_or ls (4 * e + 3) 0) (get_or ls (4 * e) 0) (get_or ls (4 * e + 1) 0) (get_or ls (4 * e + 2) 0)

facets-of : (q : ℕ → ℕ → ℕ → ℕ → Bool) (P : ℕ → ℕ → ℕ → ℕ → Type 0) → ((u a b c : ℕ) → q u a b c ≡ false → P u a b c) → (ls : List ℕ) (e : ℕ) → some_facet q ls e ≡ false → AtFacets P ls e
facets-of q P f ls e h =
    let h1 = or_right (q (get_or ls (4 * e) 0) (get_or ls (4 * e + 1) 0) (get_or ls (4 * e + 2) 0) (get_or ls (4 * e + 3) 0)) _ h in
    let h2 = or_right (q (get_or ls (4 * e + 1) 0) (get_or ls (4 * e) 0) (get_or ls (4 * e + 2) 0) (get_or ls (4 * e + 3) 0)) _ h1 in
    let h3 = or_right (q (get_or ls (4 * e + 2) 0) (get_or ls (4 * e) 0) (get_or ls (4 * e + 1) 0) (get_or ls (4 * e + 3) 0)) _ h2 in
    record {
      facet0 = f _ _ _ _ (or_left _ _ h);
      facet1 = f _ _ _ _ (or_left _ _ h1);
      facet2 = f _ _ _ _ (or_left _ _ h2);
      facet3 = f _ _ _ _ h3;
    }

-- at most two tetrahedra have the facet
abbrev pub Paired : List ℕ → ℕ → ℕ → ℕ → ℕ → Type 0
Paired ls u a b c = sharers ls (a ∷ b ∷ c ∷ []) ≤ 2

-- no tetrahedron clashes with e there: each other one with the facet has its fourth vertex strictly on the other side
abbrev pub Faced : List ℤ → List ℕ → ℕ → ℕ → ℕ → ℕ → ℕ → Type 0
Faced zs ls e u a b c = (m : ℕ) → m < length ls / 4 → clashes zs ls e u a b c m ≡ false

and-rest : (a b : Bool) → a ≡ true → (a && b) ≡ false → b ≡ false
and-rest true b t e = e
and-rest false b t e = absurd (false≢true t)

member_not : (q : ℕ → Bool) (w : ℕ) (xs : List ℕ) → any q xs ≡ false → is_in w xs ≡ true → q w ≡ false
member_not q w [] e h = absurd (false≢true h)
member_not q w (x ∷ xs) e h = go (eqb w x) refl h (member_not q w xs (or_right (q x) (any q xs) e))
  where
    go : (b : Bool) → eqb w x ≡ b → (b || is_in w xs) ≡ true → (is_in w xs ≡ true → q w ≡ false) → q w ≡ false
    go true s h r = rw (eqb-true w x s) (or_left (q x) (any q xs) e)
    go false s h r = r h

-- where m does not clash: its vertex off the facet is strictly on the other side
pub no_clash : (zs : List ℤ) (ls : List ℕ) (e u a b c m w : ℕ) → clashes zs ls e u a b c m ≡ false → (m ≡ e → ⊥) → has_all ls (a ∷ b ∷ c ∷ []) m ≡ true → is_in w (row4 ls m) ≡ true → is_in w (a ∷ b ∷ c ∷ []) ≡ false → opposite (box_in zs a b c u) (box_in zs a b c w) ≡ true
unfolding clashes astray
no_clash zs ls e u a b c m w k d h i o =
    let f = any (astray zs u a b c) (row4 ls m) in
    let g : f ≡ false = and-rest (has_all ls (a ∷ b ∷ c ∷ []) m) f h (and-rest (not (eqb m e)) (has_all ls (a ∷ b ∷ c ∷ []) m && f) (ap not (ne_eqb m e d)) k) in
    let q : astray zs u a b c w ≡ false = member_not (astray zs u a b c) w (row4 ls m) g i in
    not-false _ (and-rest (not (is_in w (a ∷ b ∷ c ∷ []))) (not (opposite (box_in zs a b c u) (box_in zs a b c w))) (ap not o) q)

pub record Sound (zs : List ℤ) (ls : List ℕ) : Type 0 where
  pub labelled : Labelled ls (length zs / 3)
  pub upright : (e : ℕ) → e < length ls / 4 → is_above0 (box_in zs (get_or ls (4 * e) 0) (get_or ls (4 * e + 1) 0) (get_or ls (4 * e + 2) 0) (get_or ls (4 * e + 3) 0)) ≡ true
  pub paired : (e : ℕ) → e < length ls / 4 → AtFacets (Paired ls) ls e
  pub faced : (e : ℕ) → e < length ls / 4 → AtFacets (Faced zs ls e) ls e

-- ---- where none applies

pub paired_at : (ls : List ℕ) (e : ℕ) → crowded ls e ≡ false → AtFacets (Paired ls) ls e
unfolding crowded full
paired_at ls e h = facets-of (full ls) (Paired ls) (λ u a b c k. omega (arith, leb-false 3 (sharers ls (a ∷ b ∷ c ∷ [])) k)) ls e h

pub faced_at : (zs : List ℤ) (ls : List ℕ) (e : ℕ) → folded zs ls e ≡ false → AtFacets (Faced zs ls e) ls e
unfolding folded clashing
faced_at zs ls e h = facets-of (clashing zs ls e) (Faced zs ls e) (λ u a b c k m l. none-at (clashes zs ls e u a b c) (length ls / 4) m k l) ls e h

pub sound : (zs : List ℤ) (ls : List ℕ) → Labelled ls (length zs / 3) → any_flat zs ls ≡ false → any_crowded ls ≡ false → any_folded zs ls ≡ false → Sound zs ls
unfolding flat
sound zs ls w c d g =
    let t = length ls / 4 in
    record {
      labelled = w;
      upright = λ j h. not-false _ (none-at (flat zs ls) t j c h);
      paired = λ j h. paired_at ls j (none-at (crowded ls) t j d h);
      faced = λ j h. faced_at zs ls j (none-at (folded zs ls) t j g h);
    }

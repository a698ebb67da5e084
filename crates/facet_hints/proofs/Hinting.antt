-- What stores of hints add up to, and that hints of every tetrahedron are hints of every facet.
-- Assumes nothing.
use Prim.Native.Nat.{ℕ, suc, ◌+◌, ◌/◌, ◌%◌, ◌<◌}
use mathlib.Core.Path.{◌≡◌, refl, sym, ◌∙◌, ap}
use mathlib.Core.Bool.{Bool, true, false, not, ◌||◌}
use mathlib.Core.List.{List, [], ◌∷◌}
use native.Mathlib.Omega.{arith}
use borrow.Author.Tests.{eqb-true, eqb-false}
use lib.Dec.{eqb}
use lib.ListN.{length, get_or, set, drop, length-set}
use lib.Seq.{drop-cons, get_or-set_same, get_or-set_other}
use Rattle.base.specs.Lists.{up_to, is_in}
use Rattle.base.specs.between.Stores.{Below}
use Rattle.base.proofs.Stores.{earlier, stores_then}
use Rattle.base.proofs.Bools.{or-false, or-either}
use Rattle.base.proofs.Lists.{both_left, both_right, any_at}
use Rattle.base.proofs.Members.{from_at}
use Rattle.tets_around.specs.Sharing.{has_all}
use Rattle.space.specs.Arrays.{row4}
use Rattle.space.proofs.Turned.{hash3-first, hash3-last}
use Rattle.facet_hints.specs.between.Hints.{hint_places, hint_place, hinted, HintsOf, AddsHints, Among, OfPoint, OfSquare, OfFour, HintsAsked}

-- a store makes one
pub hint-one : (m : List ℕ) (u v w k : ℕ) → k ≡ hint_place u v w → k < length m → AddsHints m (set m k 1) (OfPoint u v w)
unfolding hinted
hint-one m u v w k q h = record {
  same = length-set m k 1;
  kept = λ t e. stays (hint_place t.0 t.1.0 t.1.1) e (eqb (hint_place t.0 t.1.0 t.1.1) k) refl;
  made = λ t o. here (hint_place t.0 t.1.0 t.1.1) (rw (only t.0 u o.first, only t.1.0 v o.second, only t.1.1 w o.third) (sym q));
}
  where
    only : (x a : ℕ) → is_in x (a ∷ []) ≡ true → x ≡ a
    only x a e = eqb-true x a (sym (or-false (eqb x a)) ∙ e)

    here : (i : ℕ) → i ≡ k → not (eqb (get_or (set m k 1) i 0) 0) ≡ true
    here i e = ap (λ y. not (eqb y 0)) (ap (λ y. get_or (set m k 1) y 0) e ∙ get_or-set_same m k 1 0 h)

    stays : (i : ℕ) → not (eqb (get_or m i 0) 0) ≡ true → (b : Bool) → eqb i k ≡ b → not (eqb (get_or (set m k 1) i 0) 0) ≡ true
    stays i e true f = here i (eqb-true i k f)
    stays i e false f = ap (λ y. not (eqb y 0)) (get_or-set_other m k i 1 0 (eqb-false i k f)) ∙ e

-- ── the order of the three does not matter ──

hinted-first : (m : List ℕ) (u v w : ℕ) → hinted m u v w ≡ true → hinted m v u w ≡ true
unfolding hinted hint_place
hinted-first m u v w e = ap (λ n. not (eqb (get_or m (n % hint_places) 0) 0)) (hash3-first v u w) ∙ e

hinted-last : (m : List ℕ) (u v w : ℕ) → hinted m u v w ≡ true → hinted m u w v ≡ true
unfolding hinted hint_place
hinted-last m u v w e = ap (λ n. not (eqb (get_or m (n % hint_places) 0) 0)) (hash3-last u w v) ∙ e

-- ── one after the other ──

-- what is left of a list, its first first
pub front : (xs : List ℕ) (i : ℕ) → i < length xs → drop i xs ≡ get_or xs i 0 ∷ drop (i + 1) xs
front xs i h = let e : suc i ≡ i + 1 = omega arith in drop-cons xs i 0 h ∙ ap (λ j. get_or xs i 0 ∷ drop j xs) e

-- the first of a list, or one of the others
among : (x a : ℕ) (vs : List ℕ) {P : Type 0} → is_in x (a ∷ vs) ≡ true → (is_in x (a ∷ []) ≡ true → P) → (is_in x vs ≡ true → P) → P
among x a vs e f g = or-either (eqb x a) (is_in x vs) e (λ h. f (ap (λ b. b || false) h)) g

of : {us vs ws : List ℕ} {x y z : ℕ} → is_in x us ≡ true → is_in y vs ≡ true → is_in z ws ≡ true → Among us vs ws (x, (y, z))
of e f g = record { first = e; second = f; third = g }

-- one more vertex at the third place, at the last two, at all three:
-- what has it in it is turned so that it comes first of these
module _ {m m' m'' : List ℕ} {a : ℕ} where
  module _ {us vs : List ℕ} where
    pub line_next : {ws : List ℕ} → AddsHints m m' (Among us vs (a ∷ [])) → AddsHints m' m'' (Among us vs ws) → AddsHints m m'' (Among us vs (a ∷ ws))
    line_next {ws} i j = stores_then i j (λ t o. among t.1.1 a ws o.third (λ e. earlier i j t (of o.first o.second e)) (λ e. j.made t (of o.first o.second e)))

    pub square_next : AddsHints m m' (Among us (a ∷ []) (a ∷ vs)) → AddsHints m' m'' (Among us vs vs) → AddsHints m m'' (Among us (a ∷ vs) (a ∷ vs))
    square_next i j =
        stores_then i j (λ t o. among t.1.0 a vs o.second (λ e. earlier i j t (of o.first e o.third))
        (λ f. among t.1.1 a vs o.third (λ e. hinted-last m'' t.0 t.1.1 t.1.0 (earlier i j (t.0, (t.1.1, t.1.0)) (of o.first e o.second)))
        (λ g. j.made t (of o.first f g))))

  pub tet-next : {vs : List ℕ} → AddsHints m m' (OfSquare a (a ∷ vs)) → AddsHints m' m'' (OfFour vs) → AddsHints m m'' (OfFour (a ∷ vs))
  tet-next {vs} i j =
      stores_then i j (λ t o. let x = t.0 in let y = t.1.0 in let z = t.1.1 in
      among x a vs o.first (λ e. earlier i j t (of e o.second o.third))
      (λ f. among y a vs o.second (λ e. hinted-first m'' y x z (earlier i j (y, (x, z)) (of e o.first o.third)))
      (λ g. among z a vs o.third (λ e. hinted-last m'' x z y (hinted-first m'' z x y (earlier i j (z, (x, y)) (of e o.first o.second))))
      (λ h. j.made t (of f g h)))))

-- ── all tetrahedra ──

pub all-hinted : {m m' ls : List ℕ} → length m ≡ hint_places → AddsHints m m' (Below (HintsAsked ls) (length ls / 4)) → HintsOf ls m'
all-hinted {m} {m'} {ls} l a = record {
  size = a.same ∙ l;
  facets = λ u v w e.
      let f = any_at (has_all ls (u ∷ v ∷ w ∷ [])) (up_to (length ls / 4)) e in
      let i = f.0 in
      let g = f.2 in
      let g1 = both_right (is_in u (row4 ls i)) _ g in
      a.made (u, (v, w)) (record {
        which = i;
        before = omega (arith, (from_at 0 (length ls / 4) f.1).1);
        held = of (both_left (is_in u (row4 ls i)) _ g) (both_left (is_in v (row4 ls i)) _ g1) (both_left (is_in w (row4 ls i)) _ (both_right (is_in v (row4 ls i)) _ g1));
      });
}

-- Where two tetrahedra at most stand at the place of a facet: no third has it, and no other clashes there.
-- And the vertices of a facet are apart.
-- Assumes nothing.
use mathlib.Core.Path.{◌≡◌, refl, sym, ◌∙◌, ap}
use mathlib.Core.Logic.{◌⊎◌, inl, inr, ⊎_elim}
use mathlib.Core.Bool.{Bool, true, false, not, cond, ◌&&◌, ◌||◌, false≢true}
use mathlib.Core.List.{List, [], ◌∷◌}
use Prim.Native.Nat.{ℕ, zero, suc, ◌+◌, ◌-◌, ◌*◌, ◌/◌, ◌≤◌, ◌<◌}
use native.Mathlib.Omega.{arith}
use lib.Dec.{eqb}
use lib.IntN.{ℤ}
use lib.ListN.{length, get_or}
use borrow.Author.Tests.{eqb-true, eq-eqb, ne_eqb, lt-leb}
use Rattle.base.specs.Lists.{any, count, from, up_to, distinct}
use Rattle.base.proofs.Lists.{any_at}
use Rattle.base.proofs.Members.{from_at}
use Rattle.space.specs.Arrays.{row4}
use Rattle.tets_around.specs.between.Index.{Labelled}
use Rattle.tets_around.specs.Sharing.{has_all, sharers}
use Rattle.std.specs.Prelude.{Option, Some, None, is_some}
use Rattle.facet_pairs.specs.between.Pairs.{Names}
use Rattle.space.specs.declared.Vertex.{Vertex}
use Rattle.facets.specs.declared.Facet.{Facet}
use Rattle.facets.specs.Facets.{full, clashes, clashing}
use Rattle.facets.specs.between.Tries.{facet_of, at_facet, Tries}
use Rattle.tets.proofs.Labelled.{none-at}
use Rattle.facets.proofs.Tests.{clash_has}

-- ---- counts

grows : (b : Bool) (n : ℕ) → n ≤ cond b (suc n) n
grows true n = omega arith
grows false n = omega arith

-- a test that passes only where one of two others does
module _ (q p r : ℕ → Bool) where
  one_more : (a b c : Bool) (n m l : ℕ) → (a ≡ true → (b ≡ true) ⊎ (c ≡ true)) → n ≤ m + l → cond a (suc n) n ≤ cond b (suc m) m + cond c (suc l) l
  one_more true b c n m l f h = ⊎_elim (λ e. rw e (omega (arith, grows c l))) (λ e. rw e (omega (arith, grows b m))) (f refl)
  one_more false b c n m l f h = omega (arith, grows b m, grows c l)

  count-either : (k i : ℕ) → ((j : ℕ) → j < i + k → q j ≡ true → (p j ≡ true) ⊎ (r j ≡ true)) → count q (from i k) ≤ count p (from i k) + count r (from i k)
  count-either zero i f = omega arith
  count-either (suc k) i f = one_more (q i) (p i) (r i) _ _ _ (f i (omega arith)) (count-either k (suc i) (λ j h. f j (omega arith)))

-- one number passes a test for one
module _ (x : ℕ) where
  abbrev is : ℕ → Bool
  is j = eqb x (j + 1)

  count_past : (k i : ℕ) → x ≤ i → count is (from i k) ≡ 0
  count_past zero i h = refl
  count_past (suc k) i h = rw (ne_eqb x (i + 1) (λ e. omega arith)) (count_past k (suc i) (omega arith))

  count-one : (k i : ℕ) → count is (from i k) ≤ 1
  count-one zero i = omega arith
  count-one (suc k) i = go (is i) refl (count-one k (suc i))
    where
      go : (b : Bool) → is i ≡ b → count is (from (suc i) k) ≤ 1 → cond b (suc (count is (from (suc i) k))) (count is (from (suc i) k)) ≤ 1
      go true e h = let f : x ≡ i + 1 = eqb-true x (i + 1) e in omega (arith, count_past k (suc i) (omega arith))
      go false e h = h

-- ---- no third tetrahedron has the facet

pub no_third : {ls : List ℕ} {a b c : ℕ} {r : Option (ℕ × ℕ)} (u : ℕ) → Names ls a b c r → is_some r ≡ true → full ls u a b c ≡ false
unfolding full
no_third {r = None} u s n = absurd (false≢true n)
no_third {ls} {a} {b} {c} {r = Some pair} u s n =
    let t = length ls / 4 in
    let one = pair.0 in
    let two = pair.1 in
    let h = count-either (has_all ls (a ∷ b ∷ c ∷ [])) (is one) (is two) t 0 (λ m l o. ⊎_elim (λ e. inl (eq-eqb one (m + 1) e)) (λ e. inr (eq-eqb two (m + 1) e)) (s.among pair refl m (omega arith) o)) in
    lt-leb 3 (sharers ls (a ∷ b ∷ c ∷ [])) (omega (arith, h, count-one one t 0, count-one two t 0))

-- ---- no other tetrahedron clashes

some_at : (q : ℕ → Bool) (t j : ℕ) → j < t → q j ≡ true → any q (up_to t) ≡ true
some_at q t j h e = go (any q (up_to t)) refl
  where
    go : (b : Bool) → any q (up_to t) ≡ b → any q (up_to t) ≡ true
    go true f = f
    go false f = absurd (false≢true (sym (none-at q t j f h) ∙ e))

abbrev clash : List ℤ → List ℕ → Facet → ℕ → Bool
clash zs ls v = at_facet (clashes zs ls v.e.0) v

module _ {zs : List ℤ} {ls : List ℕ} {v : Facet} where
  -- x names no tetrahedron
  pub tries_none : {x : ℕ} → ((m : ℕ) → m < length ls / 4 → x ≡ m + 1 → ⊥) → Tries zs ls v x false
  tries_none n = record { found = λ m h f t. absurd (n m h f); some = λ f. absurd (false≢true f) }

  pub tries_one : {x : ℕ} {r : Bool} → 0 < x → x - 1 < length ls / 4 → r ≡ clash zs ls v (x - 1) → Tries zs ls v x r
  unfolding clashing
  tries_one {x} p h f = record {
    found = λ m l g t. f ∙ ap (clash zs ls v) (let i : x - 1 ≡ m = omega arith in i) ∙ t;
    some = λ t. some_at (clash zs ls v) (length ls / 4) (x - 1) h (sym f ∙ t);
  }

  -- of two that are tried, the second decides where the first is not it
  pub tries_two : {p : Option (ℕ × ℕ)} {one two : ℕ} {r s : Bool} → Names ls v.a.0 v.b.0 v.c.0 p → p ≡ Some (one, two) → Tries zs ls v one r → r ≡ false → Tries zs ls v two s → s ≡ at_facet (clashing zs ls v.e.0) v
  unfolding clashing
  tries_two {p} {one} {two} {r} {s} n w f g h = go s refl (any (clash zs ls v) (up_to (length ls / 4))) refl
    where
      go : (s' : Bool) → s ≡ s' → (d : Bool) → any (clash zs ls v) (up_to (length ls / 4)) ≡ d → s ≡ any (clash zs ls v) (up_to (length ls / 4))
      go true i d j = i ∙ sym (h.some i)
      go false i false j = i ∙ sym j
      go false i true j =
          let m = any_at (clash zs ls v) (up_to (length ls / 4)) j in
          let l = (from_at 0 (length ls / 4) m.1).1 in
          absurd (⊎_elim (λ k. false≢true (sym g ∙ f.found m.0 (omega arith) k m.2)) (λ k. false≢true (sym i ∙ h.found m.0 (omega arith) k m.2)) (n.among (one, two) w m.0 (omega arith) (clash_has zs ls v.e.0 v.u.0 v.a.0 v.b.0 v.c.0 m.0 m.2)))

-- ---- the vertices of a facet

three : (x y z : ℕ) → eqb x y ≡ false → eqb x z ≡ false → eqb y z ≡ false → distinct (x ∷ y ∷ z ∷ []) ≡ true
three x y z e f g = rw (e, f, g)

-- each three of four are apart
pub record Apart (a b c d : ℕ) : Type 0 where
  pub facet0 : distinct (b ∷ c ∷ d ∷ []) ≡ true
  pub facet1 : distinct (a ∷ c ∷ d ∷ []) ≡ true
  pub facet2 : distinct (a ∷ b ∷ d ∷ []) ≡ true
  pub facet3 : distinct (a ∷ b ∷ c ∷ []) ≡ true

apart : (a b c d : ℕ) → distinct (a ∷ b ∷ c ∷ d ∷ []) ≡ true → Apart a b c d
apart a b c d t = go (eqb a b) (eqb a c) (eqb a d) (eqb b c) (eqb b d) (eqb c d) refl refl refl refl refl refl t
  where
    go : (p q r s u v : Bool) → eqb a b ≡ p → eqb a c ≡ q → eqb a d ≡ r → eqb b c ≡ s → eqb b d ≡ u → eqb c d ≡ v → (not (p || (q || (r || false))) && (not (s || (u || false)) && (not (v || false) && true))) ≡ true → Apart a b c d
    go true q r s u v e f g h i j t = absurd (false≢true t)
    go false true r s u v e f g h i j t = absurd (false≢true t)
    go false false true s u v e f g h i j t = absurd (false≢true t)
    go false false false true u v e f g h i j t = absurd (false≢true t)
    go false false false false true v e f g h i j t = absurd (false≢true t)
    go false false false false false true e f g h i j t = absurd (false≢true t)
    go false false false false false false e f g h i j t = record { facet0 = three b c d h i j; facet1 = three a c d f g j; facet2 = three a b d e g i; facet3 = three a b c e f h }

pub facets-apart : {ls cs : List ℕ} {n : ℕ} (e : ℕ) → Labelled ls n → e < length ls / 4 → cs ≡ row4 ls e → Apart (get_or cs 0 0) (get_or cs 1 0) (get_or cs 2 0) (get_or cs 3 0)
facets-apart {ls} e w h q = rw q (apart (get_or ls (4 * e) 0) (get_or ls (4 * e + 1) 0) (get_or ls (4 * e + 2) 0) (get_or ls (4 * e + 3) 0) (w.apart e h))

-- for a place past the facets
abbrev pub no_facet : Facet
no_facet = let v : Vertex = record { 0 = 0 } in facet_of (record { 0 = 0 }) v v v v

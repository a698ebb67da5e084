-- Looking in two rows of neighbours alone leaves out no cell; and where a search begins.
-- Assumes nothing.
use Prim.Native.Nat.{ℕ, ◌+◌, ◌-◌, ◌/◌, ◌<◌}
use mathlib.Core.Path.{◌≡◌, refl, sym, ◌∙◌, ap, subst}
use mathlib.Core.Logic.{◌⊎◌, inl, inr}
use mathlib.Core.Bool.{Bool, true, true≢false, false}
use mathlib.Core.List.{List, [], ◌∷◌, Memᴰ}
use native.Mathlib.Omega.{arith}
use native.Mathlib.Decide.{dec_lt}
use borrow.Author.Count.{below_more}
use lib.Dec.{eqb}
use lib.IntN.{ℤ}
use lib.ListN.{length, get_or, set}
use lib.Seq.{get_or-set_same, get_or-set_other}
use Rattle.base.proofs.Loop.{length_up}
use Rattle.space.specs.Arrays.{point_at, mesh_of}
use Rattle.tets_around.specs.Sharing.{together_in}
use Rattle.templates.specs.Tables.{template_of}
use Rattle.tets_around.specs.declared.Row.{Row}
use Rattle.neighbours.specs.between.Reading.{row_in, entries_of, InRow}
use Rattle.neighbours.proofs.Reading.{tabled-rowed, row_of_in, entries-rise, entries_have}
use Rattle.portions.specs.between.Tuples.{Agree, Skips, LeastAfter}
use Rattle.rule.specs.between.Leaf.{is_leaf}
use Rattle.levels.specs.between.Levels.{base, joined, also, third}
use Rattle.levels.specs.declared.Place.{Place}
use Rattle.levels.specs.between.Passing.{passes_level, passes_with}
use Rattle.candidates.specs.between.Met.{Served, Met}
use Rattle.search.specs.between.Ready.{Ready, Sought, Drawn, OfKind, Last, Begins}
use Rattle.portions.proofs.Search.{Laws}
use Rattle.rule.proofs.OneKind.{leaf_laws}
use Rattle.levels.proofs.Right.{joined_by}
use Rattle.listed.proofs.Prune.{leaf-small, flat-at, passes}
use Rattle.listed.proofs.Joined.{Joined, leaf-joined}

-- the tuple with the listed tuple's vertex at d begins as that one does
pub set_agrees : (t : List ℕ) (d : ℕ) → d < length t → (s : List ℕ) → Agree d t s → (v : ℕ) → v ≡ get_or s d 0 → Agree (d + 1) (set t d v) s
set_agrees t d l s a v q =
    below_more (λ j. get_or (set t d v) j 0 ≡ get_or s j 0) d
    (λ j b. get_or-set_other t d j v 0 (λ e. omega arith) ∙ a j b)
    (get_or-set_same t d v 0 l ∙ q)

module _ {zs : List ℤ} {ls ps : List ℕ} {n : ℕ} {os es hs table : List ℕ} (g : Ready zs ls ps n os es hs table) where
  pub sought_of : Sought zs n hs table
  sought_of = record {
    close = g.arrays.close;
    counted = g.arrays.counted;
    lent = record { few = g.arrays.few; rowed = tabled-rowed g.tabled };
    served = λ v. let w = row_of_in g.tabled v refl in record { inside = w.inside; rises = entries-rise w };
  }

  pub drawn_of : Drawn ls n hs table
  drawn_of = record { labelled = g.arrays.indexed.labelled; hinted = g.hinted; tabled = g.tabled }

-- ── rows that serve ──

pub points_are : {zs : List ℤ} {n : ℕ} {hs table : List ℕ} → Sought zs n hs table → (ls ps : List ℕ) → length (mesh_of zs ls ps).points ≡ n
points_are {zs} g ls ps = length_up (point_at zs) (length zs / 3) ∙ g.counted

-- of three rows that are as asked two are chosen
module _ (P : Row → Type 0) where
  chosen : {r q a : Row} → P r → P q → (a ≡ r) ⊎ (a ≡ q) → P a
  chosen x y (inl e) = subst P (sym e) x
  chosen x y (inr e) = subst P (sym e) y

  chosen_two : {r q s f one two : Row} → P r → P q → P s → (f ≡ r) ⊎ (f ≡ q) → (one ≡ f) ⊎ (one ≡ s) → (two ≡ f) ⊎ (two ≡ s) → P one × P two
  chosen_two x y z a b c = let f = chosen x y a in (chosen f z b, chosen f z c)

module _ {zs : List ℤ} {n : ℕ} {hs table : List ℕ} (g : Sought zs n hs table) where
  pub two-served : (i j l : ℕ) {r q s f one two : Row} → r ≡ row_in n table i → q ≡ row_in n table j → s ≡ row_in n table l → (f ≡ r) ⊎ (f ≡ q) → (one ≡ f) ⊎ (one ≡ s) → (two ≡ f) ⊎ (two ≡ s) → Served table one × Served table two
  two-served i j l x y z = chosen_two (Served table) (there i x) (there j y) (there l z)
    where
      there : (v : ℕ) {r : Row} → r ≡ row_in n table v → Served table r
      there v e = subst (Served table) (sym e) (g.served v)

  module _ {k : ℕ} {place : Place} (o : OfKind k place) where
    abbrev d : ℕ
    d = place.at

    abbrev t : List ℕ
    t = place.tuple

    -- the row has every vertex with which a listed tuple goes on
    pub record Serves (r : Row) : Type 0 where
      pub has : (ls ps s : List ℕ) → Drawn ls n hs table → is_leaf (mesh_of zs ls ps) (template_of k) s ≡ true → Agree place.at place.tuple s → InRow table r (get_or s place.at 0)

    -- the row of the entry at p, where a listed tuple's corner there is joined to the one at d
    row_serves : (p : ℕ) → ((ls ps s : List ℕ) → is_leaf (mesh_of zs ls ps) (template_of k) s ≡ true → Joined ls s p d) → Serves (row_in n table (get_or t p 0))
    row_serves p joins = record {
      has = λ ls ps s w leaf a.
          let j = joins ls ps s leaf in
          let u = get_or t p 0 in
          let same : u ≡ get_or s p 0 = a p j.earlier in
          let l : u < n = omega (arith, same, leaf-small zs ls ps k s leaf p (omega (arith, j.earlier, o.inside)), points_are g ls ps) in
          entries_have (row_of_in w.tabled u refl) l (omega (arith, leaf-small zs ls ps k s leaf d o.inside, points_are g ls ps)) (ap (λ y. eqb y (get_or s d 0)) same ∙ j.other) (ap (λ y. together_in ls (y ∷ get_or s d 0 ∷ [])) same ∙ j.edge);
    }

    module _ (z : place.at ≡ 0 → ⊥) where
      joined_serves : {l : List ℕ} → Memᴰ l joined_by → {i : ℕ} → i ≡ get_or l place.row 0 → {r : Row} → r ≡ row_in n table (get_or t i 0) → Serves r
      joined_serves {l} m f w =
          let p = get_or l (base k + d) 0 in
          subst Serves (sym (w ∙ ap (λ y. row_in n table (get_or t y 0)) (f ∙ ap (λ y. get_or l y 0) o.row))) (row_serves p (λ ls ps s leaf. leaf-joined zs ls ps k s leaf d o.inside z m))

      -- the rows of the joined corners, and those that are chosen among them
      pub two_serve : {i j l : ℕ} → i ≡ get_or joined place.row 0 → j ≡ get_or also place.row 0 → l ≡ get_or third place.row 0 → {r q s f one two : Row} → r ≡ row_in n table (get_or place.tuple i 0) → q ≡ row_in n table (get_or place.tuple j 0) → s ≡ row_in n table (get_or place.tuple l 0) → (f ≡ r) ⊎ (f ≡ q) → (one ≡ f) ⊎ (one ≡ s) → (two ≡ f) ⊎ (two ≡ s) → Serves one × Serves two
      two_serve e1 e2 e3 w1 w2 w3 =
          chosen_two Serves (joined_serves (Memᴰ.head refl) e1 w1) (joined_serves (Memᴰ.tail (Memᴰ.head refl)) e2 w2) (joined_serves (Memᴰ.tail (Memᴰ.tail (Memᴰ.head refl))) e3 w3)

    pub meet_skips : place.at < length place.tuple → {r q : Row} → Serves r × Serves q → {lo v : ℕ} → Met (passes_with zs hs place) (entries_of table r) (entries_of table q) lo v → (ls ps : List ℕ) → Drawn ls n hs table → Skips (is_leaf (mesh_of zs ls ps) (template_of k)) place.tuple place.at n lo v
    meet_skips l {r} {q} serve {lo} {v} c ls ps w = record {
      low = λ b. c.low (omega (arith, g.lent.few));
      miss = λ s e a f b.
          let i = serve.0.has ls ps s w e a in
          let j = serve.1.has ls ps s w e a in
          let u = get_or (entries_of table r) i.place 0 in
          let fit : passes_with zs hs place u ≡ true = ap (λ y. passes_level zs hs y d (set t d u)) o.row ∙ passes zs ls ps k s e d o.inside (set t d u) (set_agrees t d l s a u i.is) w.hinted in
          omega (arith, c.least i.place j.place i.before j.before (i.is ∙ sym j.is) (omega (arith, f, i.is)) fit, i.is, b);
    }

-- ── where a search begins ──

pub of-kind : {k b d : ℕ} {t : List ℕ} → b ≡ base k → d < (template_of k).corners → OfKind k (record { tuple = t; row = b + d; at = d })
of-kind {d = d} e h = record { row = ap (λ y. y + d) e; inside = h }

pub last_of : {k b c : ℕ} {t : List ℕ} → b ≡ base k → c ≡ (template_of k).corners → 0 < c → Last k (record { tuple = t; row = b + (c - 1); at = c - 1 })
last_of {c = c} e q h = record { row = ap (λ y. y + (c - 1)) e; corners = omega (arith, q) }

module _ {zs : List ℤ} {n : ℕ} {hs table : List ℕ} (g : Sought zs n hs table) (k : ℕ) (mark : List ℕ) where
  pub begins_here : {d v w : ℕ} → d < (template_of k).corners → v ≡ get_or mark d 0 → (w ≡ v → ⊥) → ((ls ps : List ℕ) → Drawn ls n hs table → Skips (is_leaf (mesh_of zs ls ps) (template_of k)) mark d n v w) → Begins zs n hs table k mark d
  begins_here {d} {v} {w} h q z c = record {
    within = h;
    last = λ ls ps drawn. inr (λ s p a.
        let e : get_or s d 0 ≡ v = sym (a d (omega arith)) ∙ sym q in
        let small = leaf-small zs ls ps k s p d h in
        (c ls ps drawn).miss s p (λ j b. a j (omega arith)) (omega arith) (elim (dec_lt w n) [
          | yes f ↦ let y = (c ls ps drawn).low f in elim (dec_lt v w) [ yes b ↦ omega arith | no b ↦ absurd (z (omega arith)) ]
          | no f ↦ omega (arith, points_are g ls ps)
        ]));
  }

  pub begins_last : {d : ℕ} → d + 1 ≡ (template_of k).corners → Begins zs n hs table k mark d
  begins_last {d} e = record { within = omega arith; last = λ ls ps w. inl e }

  -- what the search is told of the test of a whole tuple
  pub laws_of : (ls ps : List ℕ) → Laws (template_of k).corners n (is_leaf (mesh_of zs ls ps) (template_of k))
  laws_of ls ps =
      subst (λ i. Laws (template_of k).corners i (is_leaf (mesh_of zs ls ps) (template_of k))) (points_are g ls ps) (leaf_laws (mesh_of zs ls ps) (template_of k) (flat-at k))

-- where there is none, it is no matter which tuple is named beside
pub least_none : {k : ℕ} {leaf : List ℕ → Bool} {m r s : List ℕ} → LeastAfter k leaf m false r → LeastAfter k leaf m false s
least_none x = record { holds = λ e. absurd (true≢false (sym e)); after = λ e. absurd (true≢false (sym e)); least = λ e. absurd (true≢false (sym e)); none = x.none }

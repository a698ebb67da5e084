-- Where a row is entered, and what stands in two rows.
-- Assumes nothing.
use Prim.Native.Nat.{ℕ, ◌+◌, ◌<◌, ◌≤◌}
use mathlib.Core.Path.{◌≡◌, sym, ◌∙◌, ap}
use mathlib.Core.Logic.{◌⊎◌, ⊎_elim}
use mathlib.Core.Bool.{Bool, true, false, ◌&&◌, true≢false}
use mathlib.Core.List.{List}
use native.Mathlib.Omega.{arith}
use native.Mathlib.Decide.{dec_lt}
use borrow.Author.Tests.{eq-eqb}
use lib.Dec.{eqb}
use lib.ListN.{length, get_or}
use Rattle.candidates.specs.between.Met.{Rises, Entered, Met}

-- entries of a row from a place on are not less than the one there
rises-from : (row : List ℕ) → Rises row → (i p : ℕ) → i ≤ p → p < length row → get_or row i 0 ≤ get_or row p 0
rises-from row z i p a b = elim (dec_lt i p) [
  | yes h ↦ omega (arith, z i p h b)
  | no h ↦ let e : i ≡ p = omega arith in omega (arith, ap (λ y. get_or row y 0) e)
]

-- ── where a row is entered ──

-- what is before low is below lo, and what is from high on is from lo on
pub record Halved (row : List ℕ) (lo low high : ℕ) : Type 0 where
  pub order : low ≤ high
  pub within : high ≤ length row
  pub before : (i : ℕ) → i < low → get_or row i 0 < lo
  pub after : (i : ℕ) → high ≤ i → i < length row → lo ≤ get_or row i 0

pub halved_none : (row : List ℕ) (lo : ℕ) → Halved row lo 0 (length row)
halved_none row lo = record {
  order = omega arith;
  within = omega arith;
  before = λ i h. absurd (let o : ⊥ = omega arith in o);
  after = λ i h l. absurd (let o : ⊥ = omega arith in o);
}

module _ {row : List ℕ} {lo low high : ℕ} (a : Halved row lo low high) where
  pub entered_here : high ≤ low → Entered row lo low
  entered_here h = record {
    most = omega (arith, a.order, a.within);
    before = a.before;
    after = λ i g l. a.after i (omega arith) l;
  }

  module _ (rise : Rises row) {mid : ℕ} (i : low ≤ mid) (j : mid < high) where
    pub halved_up : get_or row mid 0 < lo → Halved row lo (mid + 1) high
    halved_up h = record {
      order = omega arith;
      within = a.within;
      before = λ p g. omega (arith, rises-from row rise p mid (omega arith) (omega (arith, a.within)));
      after = a.after;
    }

    pub halved_down : lo ≤ get_or row mid 0 → Halved row lo low mid
    halved_down h = record {
      order = i;
      within = omega (arith, a.within);
      before = a.before;
      after = λ p g l. omega (arith, rises-from row rise mid p g l);
    }

-- ── what stands in both rows ──

-- what stands in both rows and passes stands from i on in the one and from j on in the other;
-- from i on the entries are from lo on
pub record Onward (ok : ℕ → Bool) (one two : List ℕ) (lo i j : ℕ) : Type 0 where
  pub first : (p q : ℕ) → p < length one → q < length two → get_or one p 0 ≡ get_or two q 0 → lo ≤ get_or one p 0 → ok (get_or one p 0) ≡ true → i ≤ p
  pub second : (p q : ℕ) → p < length one → q < length two → get_or one p 0 ≡ get_or two q 0 → lo ≤ get_or one p 0 → ok (get_or one p 0) ≡ true → j ≤ q
  pub after : (p : ℕ) → i ≤ p → p < length one → lo ≤ get_or one p 0

module _ {ok : ℕ → Bool} {one two : List ℕ} {lo : ℕ} where
  pub onward_from : {i j : ℕ} → Entered one lo i → Entered two lo j → Onward ok one two lo i j
  onward_from {i} {j} x y = record {
    first = λ p q a b e l f. elim (dec_lt p i) [ yes g ↦ absurd (let o : ⊥ = omega (arith, x.before p g) in o) | no g ↦ omega arith ];
    second = λ p q a b e l f. elim (dec_lt q j) [ yes g ↦ absurd (let o : ⊥ = omega (arith, e, y.before q g) in o) | no g ↦ omega arith ];
    after = x.after;
  }

  module _ {i j : ℕ} (a : Onward ok one two lo i j) where
    pub met_none : (length one ≤ i) ⊎ (length two ≤ j) → Met ok one two lo 65536
    met_none h = record {
      low = λ z. absurd (let o : ⊥ = omega arith in o);
      least = λ p q b c e l f. absurd (⊎_elim (λ z. let o : ⊥ = omega (arith, a.first p q b c e l f) in o) (λ z. let o : ⊥ = omega (arith, a.second p q b c e l f) in o) h);
    }

    module _ (rise1 : Rises one) (rise2 : Rises two) where
      -- the second row's entry is less than the first's
      pub onward_second : get_or two j 0 < get_or one i 0 → Onward ok one two lo i (j + 1)
      onward_second h = record {
        first = a.first;
        second = λ p q b c e l f. elim (dec_lt j q) [
          | yes g ↦ omega arith
          | no g ↦
              let x : q ≡ j = omega (arith, a.second p q b c e l f) in
              let y = rises-from one rise1 i p (a.first p q b c e l f) b in
              absurd (let o : ⊥ = omega (arith, e, ap (λ y. get_or two y 0) x, y, h) in o)
        ];
        after = a.after;
      }

      module _ {r : Bool} (e : r ≡ (eqb (get_or one i 0) (get_or two j 0) && ok (get_or one i 0))) where
        -- it is not less, and they do not agree
        pub onward_first : (get_or two j 0 < get_or one i 0 → ⊥) → r ≡ false → Onward ok one two lo (i + 1) j
        onward_first h z = record {
          first = λ p q b c k l f. elim (dec_lt i p) [
            | yes g ↦ omega arith
            | no g ↦
                let x : p ≡ i = omega (arith, a.first p q b c k l f) in
                let w = ap (λ y. get_or one y 0) x in
                let y = rises-from two rise2 j q (a.second p q b c k l f) c in
                let v : get_or one i 0 ≡ get_or two j 0 = omega (arith, k, w, y, below h) in
                absurd (true≢false (sym (e ∙ rw (eq-eqb (get_or one i 0) (get_or two j 0) v, sym (ap ok w) ∙ f)) ∙ z))
          ];
          second = a.second;
          after = λ p b c. a.after p (omega arith) c;
        }
          where
            below : (get_or two j 0 < get_or one i 0 → ⊥) → get_or one i 0 ≤ get_or two j 0
            below z = elim (dec_lt (get_or two j 0) (get_or one i 0)) [ yes y ↦ absurd (z y) | no y ↦ omega arith ]

        pub met_here : i < length one → {v : ℕ} → v ≡ get_or one i 0 → r ≡ true → Met ok one two lo v
        met_here h {v} q z = record {
          low = λ g. omega (arith, q, a.after i (omega arith) h);
          least = λ p k b c y l f. omega (arith, q, rises-from one rise1 i p (a.first p k b c y l f) b);
        }

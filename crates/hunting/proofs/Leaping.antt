-- The hunt for the next vertex: leaps over what cannot follow.
-- Assumes nothing.
use Prim.Native.Nat.{ℕ, ◌+◌, ◌-◌, ◌<◌, ◌≤◌}
use mathlib.Core.Path.{◌≡◌, sym, ◌∙◌, subst}
use mathlib.Core.Logic.{⊎_elim}
use mathlib.Core.Bool.{Bool, true, false, not, true≢false}
use mathlib.Core.List.{List}
use native.Mathlib.Omega.{arith}
use native.Mathlib.Decide.{dec_lt}
use borrow.Author.Tests.{not-true}
use lib.IntN.{ℤ}
use Rattle.reaching.specs.declared.FaceEdge.{FaceEdge}
use Rattle.reaching.specs.between.Reaching.{Closes, LeastAsked}
use Rattle.levels.specs.declared.Place.{Place}
use Rattle.levels.specs.between.Passing.{passes_with}
use Rattle.aims.specs.between.Aims.{LinksFirst, Aims}
use Rattle.hunting.specs.between.Goes.{face_edge_at, Follows, Passes, Goes, Stops}

-- ── a leap ──

over : {n : ℕ} {table hs : List ℕ} {e f : FaceEdge} {lo v : ℕ} → e ≡ f → LeastAsked (Closes n table hs e) lo n v → LeastAsked (Closes n table hs f) lo n v
over {n} {table} {hs} {e} {f} {lo} {v} q a = subst (λ e. LeastAsked (Closes n table hs e) lo n v) q a

module _ {n : ℕ} {table hs t : List ℕ} {x o p lo v : ℕ} {both : Bool} {one : FaceEdge} (q : one ≡ face_edge_at t x 0 o p) (a : LeastAsked (Closes n table hs one) lo n v) where
  -- over one edge alone
  pub leap_first : both ≡ true → LeastAsked (Follows n table hs t x o p both) lo n v
  leap_first e = record { most = a.most; low = a.low; least = λ y f h. (over q a).least y (f.each e).0 h }

  module _ {two : FaceEdge} (z : two ≡ face_edge_at t x 3 o p) {r : ℕ} where
    -- over one after the other
    pub leap_each : both ≡ true → LeastAsked (Closes n table hs two) v n r → LeastAsked (Follows n table hs t x o p both) lo n r
    leap_each e c =
        let b = over z c in
        record {
          most = b.most;
          low = λ h. let g = b.low h in omega (arith, a.low (omega arith));
          least = λ y f h. b.least y (f.each e).1 ((over q a).least y (f.each e).0 h);
        }

    -- the least of two leaps and of p and o
    pub leap_some : both ≡ false → LeastAsked (Closes n table hs two) lo n r → {m k y : ℕ} → m ≤ v → m ≤ r → (m < n → lo ≤ m) → LeastAsked (λ y. y ≡ p) lo m k → LeastAsked (λ y. y ≡ o) lo k y → LeastAsked (Follows n table hs t x o p both) lo n y
    leap_some e s {m} {k} {y} i j g c d =
        let b = over z s in
        record {
          most = omega (arith, a.most, c.most, d.most);
          low = λ h. elim (dec_lt y k) [
            | yes l ↦ d.low l
            | no l ↦ elim (dec_lt k m) [ yes z ↦ omega (arith, l, c.low z) | no z ↦ omega (arith, l, z, c.most, g (omega (arith, l, z, c.most))) ]
          ];
          least = λ w f h. ⊎_elim (λ z. ⊎_elim (λ z. d.least w z h) (λ z. omega (arith, c.least w z h, d.most)) z) (λ z. ⊎_elim (λ z. omega (arith, (over q a).least w z h, c.most, d.most)) (λ z. omega (arith, b.least w z h, c.most, d.most)) z) (f.some e);
        }

-- ── the hunt ──

-- what is asked for from lo on and below n comes from v on
pub record Passed (asked : ℕ → Type 0) (n lo v : ℕ) : Type 0 where
  pub low : lo ≤ v
  pub rest : (y : ℕ) → asked y → lo ≤ y → y < n → v ≤ y

module _ {asked : ℕ → Type 0} {n lo : ℕ} where
  pub passed_none : Passed asked n lo lo
  passed_none = record { low = omega arith; rest = λ y p h g. h }

  module _ {v : ℕ} (a : Passed asked n lo v) where
    pub hunted_none : n ≤ v → LeastAsked asked lo n n
    hunted_none h = record {
      most = omega arith;
      low = λ g. absurd (let z : ⊥ = omega arith in z);
      least = λ y p g. elim (dec_lt y n) [ yes l ↦ omega (arith, a.rest y p g l) | no l ↦ omega arith ];
    }

    module _ {leaps : ℕ → Type 0} {r : ℕ} (only : (y : ℕ) → asked y → leaps y) (b : LeastAsked leaps v n r) where
      beyond_r : (y : ℕ) → asked y → lo ≤ y → y < n → r ≤ y
      beyond_r y p g l = b.least y (only y p) (a.rest y p g l)

      pub hunted : LeastAsked asked lo n r
      hunted = record {
        most = b.most;
        low = λ h. omega (arith, a.low, b.low h);
        least = λ y p g. elim (dec_lt y n) [ yes l ↦ beyond_r y p g l | no l ↦ omega (arith, b.most) ];
      }

      -- and on from after it
      pub passed-next : v < n → {q : Bool} → Stops asked n r q → q ≡ false → Passed asked n lo (r + 1)
      passed-next l {q} s e = record {
        low = elim (dec_lt r n) [ yes h ↦ omega (arith, a.low, b.low h) | no h ↦ omega (arith, a.low) ];
        rest = λ y p g i. elim (dec_lt r y) [
          | yes h ↦ omega arith
          | no h ↦ let z : y ≡ r = omega (arith, beyond_r y p g i) in absurd (s.none e (omega arith) (subst asked z p))
        ];
      }

pub hunt-less : {asked : ℕ → Type 0} {n v r q : ℕ} → LeastAsked asked v n r → v < n → r < q → n - q < n - v
hunt-less {asked} {n} {v} {r} b h l = elim (dec_lt r n) [ yes i ↦ omega (arith, b.low i) | no i ↦ omega arith ]

-- ── one vertex ──

pub stops_fit : (zs : List ℤ) (hs : List ℕ) (place : Place) {n v : ℕ} {r : Bool} → r ≡ passes_with zs hs place v → Stops (Passes zs hs place) n v r
stops_fit zs hs place e = record { none = λ f h g. true≢false (sym (e ∙ g) ∙ f) }

pub stops_goes : (zs : List ℤ) (hs : List ℕ) (place : Place) {table : List ℕ} {n v : ℕ} {r : Bool} → Stops (Passes zs hs place) n v r → Stops (Goes zs n table hs place) n v r
stops_goes zs hs place s = record { none = λ f h g. s.none f h g.fit }

module _ {zs : List ℤ} {n : ℕ} {table hs : List ℕ} {place : Place} {some both : Bool} {o p : ℕ} (q : Aims (LinksFirst n table hs place.tuple) place.row some both o p) where
  pub goes_follows : (v : ℕ) → Goes zs n table hs place v → Follows n table hs place.tuple place.row o p both v
  goes_follows v g = (g.follows some both o p q).1

  pub hunt-none : {lo : ℕ} → not some ≡ true → LeastAsked (Goes zs n table hs place) lo n n
  hunt-none e = record {
    most = omega arith;
    low = λ g. absurd (let z : ⊥ = omega arith in z);
    least = λ v g h. absurd (true≢false (sym (g.follows some both o p q).0 ∙ not-true some e));
  }

-- Laws of the least of what is asked for, one vertex after the other and one entry of a row after the other.
-- Assumes nothing.
use Prim.Native.Nat.{ℕ, ◌+◌, ◌≤◌, ◌<◌}
use mathlib.Core.Path.{◌≡◌, sym, ◌∙◌}
use mathlib.Core.Logic.{◌⊎◌, inl, inr, ⊎_elim}
use mathlib.Core.Bool.{Bool, true, false, true≢false}
use mathlib.Core.List.{List}
use native.Mathlib.Omega.{arith}
use native.Mathlib.Decide.{dec_lt}
use lib.ListN.{length, get_or}
use Rattle.reaching.specs.between.Reaching.{LeastAsked, ByRow}

-- r is a test's result, a what it tests
pub denied : {a r : Bool} → r ≡ a → r ≡ false → a ≡ true → ⊥
denied e f g = true≢false (sym g ∙ (sym e ∙ f))

module _ {P : ℕ → Type 0} {lo best : ℕ} where
  -- nothing that is asked for is less
  pub least_stays : ((v : ℕ) → P v → lo ≤ v → best ≤ v) → LeastAsked P lo best best
  least_stays f = record { most = omega arith; low = λ h. absurd (let z : ⊥ = omega arith in z); least = f }

  -- of less that is asked for
  pub least-of : {Q : ℕ → Type 0} {r : ℕ} → LeastAsked Q lo best r → ((v : ℕ) → P v → Q v) → LeastAsked P lo best r
  least-of a f = record { most = a.most; low = a.low; least = λ v p h. a.least v (f v p) h }

  -- one after the other
  pub least_then : {Q R : ℕ → Type 0} {a b : ℕ} → LeastAsked Q lo best a → LeastAsked R lo a b → ((v : ℕ) → P v → Q v ⊎ R v) → LeastAsked P lo best b
  least_then {Q} {R} {a} {b} x y f = record {
    most = omega (arith, x.most, y.most);
    low = λ h. elim (dec_lt b a) [ yes l ↦ y.low l | no l ↦ let e : b ≡ a = omega (arith, y.most) in omega (arith, x.low (omega arith)) ];
    least = λ v p h. ⊎_elim (λ q. omega (arith, x.least v q h, y.most)) (λ q. y.least v q h) (f v p);
  }

-- ── one vertex after the other ──

-- what is asked for from lo on comes from v on
pub record Passed (P : ℕ → Type 0) (lo v : ℕ) : Type 0 where
  pub low : lo ≤ v
  pub rest : (y : ℕ) → P y → lo ≤ y → v ≤ y

module _ {P : ℕ → Type 0} {lo : ℕ} where
  pub passed_none : Passed P lo lo
  passed_none = record { low = omega arith; rest = λ y p h. h }

  module _ {v : ℕ} (a : Passed P lo v) where
    pub passed_on : (P v → ⊥) → Passed P lo (v + 1)
    passed_on f = record {
      low = omega (arith, a.low);
      rest = λ y p h. elim (dec_lt v y) [ yes l ↦ omega arith | no l ↦ let e : y ≡ v = omega (arith, a.rest y p h) in absurd (f (rw e at p)) ];
    }

    pub passed_here : {best : ℕ} → v < best → LeastAsked P lo best v
    passed_here h = record { most = omega arith; low = λ g. a.low; least = a.rest }

    pub passed-all : {best : ℕ} → best ≤ v → LeastAsked P lo best best
    passed-all h = least_stays (λ y p g. omega (arith, a.rest y p g))

-- ── a row ──

module _ {asked : ℕ → ℕ → Type 0} {row : List ℕ} where
  -- asked for by the entry at place i, or by one before it
  pub earlier : {i : ℕ} (v : ℕ) → ByRow asked row (i + 1) v → ByRow asked row i v ⊎ asked (get_or row i 0) v
  earlier {i} v p = elim (dec_lt p.place i) [
    | yes l ↦ inl (record { place = p.place; before = l; asks = p.asks })
    | no l ↦ let e : p.place ≡ i = omega (arith, p.before) in inr (rw (← e) p.asks)
  ]

  -- by the first i, where the row has no more
  pub rows_end : {i : ℕ} → length row ≤ i → (v : ℕ) → ByRow asked row (length row) v → ByRow asked row i v
  rows_end h v p = record { place = p.place; before = omega (arith, p.before); asks = p.asks }

module _ {asked : ℕ → ℕ → Type 0} {row : List ℕ} {lo best : ℕ} where
  pub row-none : LeastAsked (ByRow asked row 0) lo best best
  row-none = least_stays (λ v p h. absurd (let z : ⊥ = omega (arith, p.before) in z))

  module _ {i b : ℕ} (a : LeastAsked (ByRow asked row i) lo best b) where
    pub row_more : {r : ℕ} → LeastAsked (asked (get_or row i 0)) lo b r → LeastAsked (ByRow asked row (i + 1)) lo best r
    row_more c = least_then a c earlier

    -- a loop that has come to the end
    pub row-all : length row ≤ i → LeastAsked (ByRow asked row (length row)) lo best b
    row-all h = least-of a (rows_end h)

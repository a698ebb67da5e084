-- Laws of counting the vertices that link two others.
-- Assumes nothing.
use Prim.Native.Nat.{ℕ, ◌+◌, ◌≤◌}
use mathlib.Core.Path.{refl}
use mathlib.Core.Logic.{⊎_elim}
use mathlib.Core.List.{List}
use native.Mathlib.Omega.{arith}
use lib.ListN.{length, get_or}
use Rattle.tets_around.specs.declared.Row.{Row}
use Rattle.neighbours.specs.between.Reading.{entries_of}
use Rattle.reaching.specs.declared.FaceEdge.{FaceEdge}
use Rattle.reaching.specs.between.Reaching.{Chosen, Links, ByRow}
use Rattle.reaching.proofs.Least.{earlier, rows_end}
use Rattle.reaching.proofs.Entries.{by_in, link_in}
use Rattle.linking.specs.declared.Linking.{Linking}
use Rattle.linking.specs.between.Met.{AllMet, Adds, LinkAt}

module _ {P : ℕ → Type 0} {s : Linking} where
  -- nothing is asked for
  pub adds_none : ((y : ℕ) → P y → ⊥) → Adds P s s
  adds_none f = record { new = λ y p. absurd (f y p); old = λ y c. c }

  -- of less that is asked for
  pub adds_of : {r : Linking} {Q : ℕ → Type 0} → Adds Q s r → ((y : ℕ) → P y → Q y) → Adds P s r
  adds_of a f = record { new = λ y p. a.new y (f y p); old = a.old }

-- ── a row ──

module _ {asked : ℕ → ℕ → Type 0} {row : List ℕ} (s : Linking) where
  pub only_row_none : AllMet (ByRow asked row 0) s
  only_row_none y p = absurd (let z : ⊥ = omega (arith, p.before) in z)

  module _ {i : ℕ} (a : AllMet (ByRow asked row i) s) where
    -- what was asked for before is still among what was met
    pub only_row_more : {r : Linking} → Adds (asked (get_or row i 0)) s r → AllMet (ByRow asked row (i + 1)) r
    only_row_more c y p = ⊎_elim (λ q. c.old y (a y q)) (c.new y) (earlier y p)

    -- a loop that has come to the end
    pub only_row_all : length row ≤ i → AllMet (ByRow asked row (length row)) s
    only_row_all h y p = a y (rows_end h y p)

-- the row of u or of w has all that link
pub links-only : {n : ℕ} {table hs : List ℕ} {e : FaceEdge} {r : Row} {v : ℕ} (s : Linking) → Chosen n table e.u.0 e.w.0 r → AllMet (ByRow (LinkAt n table hs e v) (entries_of table r) (length (entries_of table r))) s → AllMet (λ x. Links n table hs e x v) s
links-only s w a y l = a y (by_in (link_in w l) (record { same = refl; links = l }))

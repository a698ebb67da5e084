-- Looking ahead: at each place from the third on, two edges that the new corner follows, which may be one.
-- Assumes nothing.
use Rattle.std.specs.Prelude.{ℕ, ◌+◌, ◌<◌, ◌≡◌, ◌⊎◌, Bool, true, false, cond, List, ltb, ℤ, get_or}
use Rattle.reaching.specs.declared.FaceEdge.{FaceEdge}
use Rattle.reaching.specs.between.Reaching.{Closes}
use Rattle.levels.specs.declared.Place.{Place}
use Rattle.levels.specs.between.Levels.{look}
use Rattle.levels.specs.between.Passing.{passes_with}
use Rattle.aims.specs.between.Aims.{face_edge, LinksFirst, Aims}

-- what the corners but the first are not below: the kinds 8 and 6 have the rows before 14,
-- and their first corner is the least
abbrev pub floor_of : List ℕ → ℕ → ℕ
floor_of t x = cond (ltb x 14) (get_or t 0 0 + 1) 0

-- the edge at the entries i and i + 1 of row x in the tuple t:
-- the linking vertex is neither o nor p, nor the one at entry i + 2
abbrev pub face_edge_at : List ℕ → ℕ → ℕ → ℕ → ℕ → FaceEdge
face_edge_at t x i o p = face_edge (get_or t (look x i) 0) (get_or t (look x (i + 1)) 0) (floor_of t x) o p (get_or t (look x (i + 2)) 0)

-- v can follow at row x: both edges, where both are asked for, and else one of them, or it is o or p itself
pub record Follows (n : ℕ) (table hs t : List ℕ) (x o p : ℕ) (both : Bool) (v : ℕ) : Type 0 where
  pub each : both ≡ true → Closes n table hs (face_edge_at t x 0 o p) v × Closes n table hs (face_edge_at t x 3 o p) v
  pub some : both ≡ false → ((v ≡ o) ⊎ (v ≡ p)) ⊎ (Closes n table hs (face_edge_at t x 0 o p) v ⊎ Closes n table hs (face_edge_at t x 3 o p) v)

-- the tuple passes the test of the place with v there
abbrev pub Passes : List ℤ → List ℕ → Place → ℕ → Type 0
Passes zs hs place v = passes_with zs hs place v ≡ true

-- and v follows by whatever aim is known
pub record Goes (zs : List ℤ) (n : ℕ) (table hs : List ℕ) (place : Place) (v : ℕ) : Type 0 where
  pub fit : Passes zs hs place v
  pub follows : (some both : Bool) (o p : ℕ) → Aims (LinksFirst n table hs place.tuple) place.row some both o p → (some ≡ true) × Follows n table hs place.tuple place.row o p both v

-- where r is false, v is not one of n vertices that is asked for
pub record Stops (asked : ℕ → Type 0) (n v : ℕ) (r : Bool) : Type 0 where
  pub none : r ≡ false → v < n → asked v → ⊥

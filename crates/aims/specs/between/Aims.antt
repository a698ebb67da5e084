-- Looking ahead: what is known of the vertices that link the first three corners of a tuple,
-- and so cannot link the faces to come.
-- Assumes nothing.
use Rattle.std.specs.Prelude.{ℕ, ◌+◌, ◌≡◌, ◌⊎◌, Bool, true, false, Option, Some, None, List, get_or}
use Rattle.reaching.specs.declared.FaceEdge.{FaceEdge}
use Rattle.reaching.specs.between.Reaching.{Links}
use Rattle.aims.specs.declared.Aim.{Aim}

-- the edge from w to u, and what may not link w and the next corner at u
abbrev pub face_edge : ℕ → ℕ → ℕ → ℕ → ℕ → ℕ → FaceEdge
face_edge u w floor o p q =
    record { u = record { 0 = u }; w = record { 0 = w }; floor = floor; o = record { 0 = o }; p = record { 0 = p }; q = record { 0 = q } }

-- the edge from the second entry of the tuple to the first: the linking vertex is above the first
abbrev pub first_edge : List ℕ → FaceEdge
first_edge t = face_edge (get_or t 0 0) (get_or t 1 0) (get_or t 0 0 + 1) (get_or t 1 0) (get_or t 1 0) (get_or t 1 0)

-- y links the first three entries of the tuple, and is above the first
abbrev pub LinksFirst : ℕ → List ℕ → List ℕ → List ℕ → ℕ → Type 0
LinksFirst n table hs t y = Links n table hs (first_edge t) y (get_or t 2 0)

-- what is known of the aim at row x by what links the first three; rows 3 and 11 are place 3 of the kinds 8 and 6,
-- row 16 is place 2 of kind 5
-- where there is none, nothing links the first three; where both edges are asked for, one vertex is barred,
-- and it is no vertex, or it is row 16, or nothing but it links the first three;
-- where one of them is, one vertex is barred or nothing but o and p links the first three
pub record Aims (first : ℕ → Type 0) (x : ℕ) (some both : Bool) (o p : ℕ) : Type 0 where
  pub none : some ≡ false → (x ≡ 3) × ((y : ℕ) → first y → ⊥)
  pub each : both ≡ true → (o ≡ p) × ((p ≡ 65535) ⊎ ((x ≡ 16) ⊎ ((x ≡ 3) × ((y : ℕ) → first y → y ≡ p))))
  pub either : both ≡ false → ((x ≡ 3) ⊎ (x ≡ 11)) × ((o ≡ p) ⊎ ((x ≡ 3) × ((y : ℕ) → first y → (y ≡ o) ⊎ (y ≡ p))))

-- the same of an aim, or of none
abbrev pub AimsOf : (ℕ → Type 0) → ℕ → Option Aim → Type 0
AimsOf first x None = Aims first x false true 65535 65535
AimsOf first x (Some a) = Aims first x true a.both a.o.0 a.p.0

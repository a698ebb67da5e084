-- The tetrahedra at a facet: a table in which three vertices have one place, and two numbers stand at each place.
-- A number is a tetrahedron's plus one, and 0 for none; the second is 65,535 where there are more than two.
-- Other three may have the same place.
-- Assumes nothing.
use Rattle.std.specs.Prelude.{ℕ, ◌+◌, ◌*◌, ◌/◌, ◌%◌, ◌<◌, ◌≡◌, ◌⊎◌, true, List, [], ◌∷◌, length, get_or, Option, Some}
use Rattle.base.specs.Lists.{distinct}
use Rattle.base.specs.between.Stores.{Stores}
use Rattle.space.specs.between.Hash.{hash3}
use Rattle.tets_around.specs.Sharing.{has_all}

-- the place of three vertices, in whatever order they are named
unfoldable pub pair_place : ℕ → ℕ → ℕ → ℕ
pair_place u v w = hash3 u v w % 32768

-- tetrahedron m is one of the two at place k, or the place says that there are more
abbrev pub StandsAt : List ℕ → ℕ → ℕ → Type 0
StandsAt ps k m = (get_or ps (2 * k + 1) 0 ≡ 65535) ⊎ ((get_or ps (2 * k) 0 ≡ m + 1) ⊎ (get_or ps (2 * k + 1) 0 ≡ m + 1))

-- every tetrahedron is told at the place of each three different vertices of it
pub record PairsOf (ls ps : List ℕ) : Type 0 where
  pub size : length ps ≡ 65536
  pub told : (m a b c : ℕ) → m < length ls / 4 → distinct (a ∷ b ∷ c ∷ []) ≡ true → has_all ls (a ∷ b ∷ c ∷ []) m ≡ true → StandsAt ps (pair_place a b c) m

-- where there are not more, the tetrahedra with these three vertices are among the two
pub record Names (ls : List ℕ) (a b c : ℕ) (r : Option (ℕ × ℕ)) : Type 0 where
  pub among : (pair : ℕ × ℕ) → r ≡ Some pair → (m : ℕ) → m < length ls / 4 → has_all ls (a ∷ b ∷ c ∷ []) m ≡ true → (pair.0 ≡ m + 1) ⊎ (pair.1 ≡ m + 1)

-- ── what the stores do ──

-- p' tells what p tells, and whatever is asked for: at which place, which tetrahedron
abbrev pub Puts : List ℕ → List ℕ → (ℕ × ℕ → Type 0) → Type 0
Puts = Stores (λ p t. StandsAt p t.0 t.1)

-- tetrahedron e at the place of three vertices
abbrev pub OfFacet : ℕ → ℕ → ℕ → ℕ → ℕ × ℕ → Type 0
OfFacet e u v w t = (t.1 ≡ e) × (t.0 ≡ pair_place u v w)

-- the place of a facet of four vertices
abbrev pub IsFacetPlace : ℕ → ℕ → ℕ → ℕ → ℕ → Type 0
IsFacetPlace a b c d k = ((k ≡ pair_place b c d ⊎ k ≡ pair_place a c d) ⊎ k ≡ pair_place a b d) ⊎ k ≡ pair_place a b c

-- tetrahedron e at its four facets
abbrev pub AtFacets : ℕ → ℕ → ℕ → ℕ → ℕ → ℕ × ℕ → Type 0
AtFacets e a b c d t = (t.1 ≡ e) × IsFacetPlace a b c d t.0

-- what tetrahedron i asks for
abbrev pub PairsAsked : List ℕ → ℕ → ℕ × ℕ → Type 0
PairsAsked ls i = AtFacets i (get_or ls (4 * i) 0) (get_or ls (4 * i + 1) 0) (get_or ls (4 * i + 2) 0) (get_or ls (4 * i + 3) 0)

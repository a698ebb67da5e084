-- Hints of facets: a table in which three vertices have one place.
-- Where the place is empty they are no facet; where it is not they may be.
-- Assumes nothing.
use Rattle.std.specs.Prelude.{ℕ, ◌%◌, ◌≡◌, Bool, true, not, ◌||◌, List, [], ◌∷◌, eqb, length, get_or}
use Rattle.base.specs.Lists.{all, is_in}
use Rattle.base.specs.between.Stores.{Stores}
use Rattle.space.specs.Arrays.{row4}
use Rattle.space.specs.between.Hash.{hash3}
use Rattle.tets_around.specs.Sharing.{together_in}
use Rattle.templates.specs.Tables.{at}
use Rattle.cells.specs.Cells.{all_faces}

-- how many places the table has
abbrev pub hint_places : ℕ
hint_places = 131072

-- the place of three vertices, in whatever order they are named
unfoldable pub hint_place : ℕ → ℕ → ℕ → ℕ
hint_place u v w = hash3 u v w % hint_places

-- there is a hint at the place of three vertices
unfoldable pub hinted : List ℕ → ℕ → ℕ → ℕ → Bool
hinted hs u v w = not (eqb (get_or hs (hint_place u v w) 0) 0)

-- every three vertices of a tetrahedron have their hint
pub record HintsOf (ls hs : List ℕ) : Type 0 where
  pub size : length hs ≡ hint_places
  pub facets : (u v w : ℕ) → together_in ls (u ∷ v ∷ w ∷ []) ≡ true → hinted hs u v w ≡ true

-- three vertices in a list have their hint; the corners ks of c have it
abbrev pub hinted_facet : List ℕ → List ℕ → Bool
hinted_facet hs vs = hinted hs (get_or vs 0 0) (get_or vs 1 0) (get_or vs 2 0)

abbrev pub hinted_at : List ℕ → List ℕ → List ℕ → Bool
hinted_at hs c ks = hinted_facet hs (at c ks)

-- two triangles have theirs, and both of a diagonal of four vertices
abbrev pub both_hinted : List ℕ → ℕ → ℕ → ℕ → ℕ → ℕ → ℕ → Bool
both_hinted hs a b c d e f = all (hinted_facet hs) ((a ∷ b ∷ c ∷ []) ∷ (d ∷ e ∷ f ∷ []) ∷ [])

abbrev pub split_at : List ℕ → ℕ → ℕ → ℕ → ℕ → Bool
split_at hs a b c d = both_hinted hs a b c a c d || both_hinted hs a b d b c d

-- condition 3 as far as the hints tell: every face of a tuple can be one of the mesh
unfoldable pub faces_hinted : List ℕ → List ℕ → List (List ℕ) → List (List ℕ) → Bool
faces_hinted hs c ts qs = all_faces (hinted_at hs c) ts qs

-- ── what the stores do ──

-- three vertices have their hint
abbrev pub HasHint : List ℕ → ℕ × (ℕ × ℕ) → Type 0
HasHint m t = hinted m t.0 t.1.0 t.1.1 ≡ true

-- m' has the hints of m, and one for every three vertices that are asked for
abbrev pub AddsHints : List ℕ → List ℕ → (ℕ × (ℕ × ℕ) → Type 0) → Type 0
AddsHints = Stores HasHint

-- each of three vertices is among those for its place
pub record Among (us vs ws : List ℕ) (t : ℕ × (ℕ × ℕ)) : Type 0 where
  pub first : is_in t.0 us ≡ true
  pub second : is_in t.1.0 vs ≡ true
  pub third : is_in t.1.1 ws ≡ true

-- these three; this one and two of some; three of some
abbrev pub OfPoint : ℕ → ℕ → ℕ → ℕ × (ℕ × ℕ) → Type 0
OfPoint u v w = Among (u ∷ []) (v ∷ []) (w ∷ [])

abbrev pub OfSquare : ℕ → List ℕ → ℕ × (ℕ × ℕ) → Type 0
OfSquare u vs = Among (u ∷ []) vs vs

abbrev pub OfFour : List ℕ → ℕ × (ℕ × ℕ) → Type 0
OfFour vs = Among vs vs vs

-- what tetrahedron i asks for
abbrev pub HintsAsked : List ℕ → ℕ → ℕ × (ℕ × ℕ) → Type 0
HintsAsked ls i = OfFour (row4 ls i)

-- A matrix, 512 places to a row: which vertices stand together in one of the first tetrahedra.
-- Assumes nothing.
use Rattle.std.specs.Prelude.{ℕ, zero, suc, ◌+◌, ◌*◌, ◌<◌, ◌≡◌, Bool, false, not, ◌&&◌, ◌||◌, List, eqb, length, get_or}

-- x is one of the four
abbrev pub is_one : ℕ → ℕ → ℕ → ℕ → ℕ → Bool
is_one a b c d x = ((eqb x a || eqb x b) || eqb x c) || eqb x d

-- x is a vertex of tetrahedron t
abbrev pub is_vertex_of : List ℕ → ℕ → ℕ → Bool
is_vertex_of l t x = is_one (get_or l (4 * t) 0) (get_or l (4 * t + 1) 0) (get_or l (4 * t + 2) 0) (get_or l (4 * t + 3) 0) x

-- one of the first t tetrahedra has both vertices
unfoldable pub joined_by : List ℕ → ℕ → ℕ → ℕ → Bool
joined_by l zero u v = false
joined_by l (suc t) u v = joined_by l t u v || (is_vertex_of l t v && is_vertex_of l t u)

-- the matrix says that u and v stand together
unfoldable pub is_joined : List ℕ → ℕ → ℕ → Bool
is_joined m u v = not (eqb (get_or m (u * 512 + v) 0) 0)

-- the matrix says nothing yet
pub record Empty (m : List ℕ) : Type 0 where
  pub size : length m ≡ 262144
  pub none : (x y : ℕ) → is_joined m x y ≡ false

-- it says so of u and none of the k vertices from v on
abbrev pub Blank : List ℕ → ℕ → ℕ → ℕ → Type 0
Blank m u v k = (i : ℕ) → i < k → is_joined m u (v + i) ≡ false

-- m' says what m says, and what f says
pub record AddsJoins (m m' : List ℕ) (f : ℕ → ℕ → Bool) : Type 0 where
  pub same : length m' ≡ length m
  pub at : (x y : ℕ) → y < 512 → is_joined m' x y ≡ (is_joined m x y || f x y)

abbrev pub one_pair : ℕ → ℕ → ℕ → ℕ → Bool
one_pair u v x y = eqb x u && eqb y v

abbrev pub row_pairs : ℕ → ℕ → ℕ → ℕ → ℕ → ℕ → ℕ → Bool
row_pairs u a b c d x y = is_one a b c d y && eqb x u

abbrev pub tet_pairs : ℕ → ℕ → ℕ → ℕ → ℕ → ℕ → Bool
tet_pairs a b c d x y = is_one a b c d y && is_one a b c d x

-- f says that v stands with u, and they differ
abbrev pub next_to : (ℕ → ℕ → Bool) → ℕ → ℕ → Bool
next_to f u v = not (eqb u v) && f u v

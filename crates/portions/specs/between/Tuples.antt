-- Tuples as lists, of which the first k entries count; their lexicographic order; the least after a mark.
-- Assumes nothing.
use Rattle.std.specs.Prelude.{◌≡◌, Bool, true, false, ◌⊎◌, List, [], ◌∷◌, ◌++◌, map, ℕ, zero, suc, ◌≤◌, ◌<◌, get_or}
use Rattle.base.specs.Lists.{up_to}

-- the first k entries
abbrev pub front : ℕ → List ℕ → List ℕ
front k s = map (λ i. get_or s i 0) (up_to k)

-- s and t have the same first k entries
abbrev pub Agree : ℕ → List ℕ → List ℕ → Type 0
Agree k s t = (j : ℕ) → j < k → get_or s j 0 ≡ get_or t j 0

-- s is before t in the lexicographic order of the first k entries: at the first place where they differ, s has the less
pub record Lt (k : ℕ) (s t : List ℕ) : Type 0 where
  pub place : ℕ
  pub within : place < k
  pub same : Agree place s t
  pub less : get_or s place 0 < get_or t place 0

-- s is before t, or they are the same tuple
abbrev pub Le : ℕ → List ℕ → List ℕ → Type 0
Le k s t = Lt k s t ⊎ Agree k s t

-- of the tuples that pass `leaf`, the least after m is r where `found` is true, and there is none where it is false
pub record LeastAfter (k : ℕ) (leaf : List ℕ → Bool) (m : List ℕ) (found : Bool) (r : List ℕ) : Type 0 where
  pub holds : found ≡ true → leaf r ≡ true
  pub after : found ≡ true → Lt k m r
  pub least : found ≡ true → (s : List ℕ) → leaf s ≡ true → Lt k m s → Le k r s
  pub none : found ≡ false → (s : List ℕ) → leaf s ≡ true → Lt k m s → ⊥

-- at place d the search goes on with r, where it is below n:
-- from lo on up to r, no number goes on from the first d entries of t to a tuple that passes
pub record Skips (leaf : List ℕ → Bool) (t : List ℕ) (d n lo r : ℕ) : Type 0 where
  pub low : r < n → lo ≤ r
  pub miss : (s : List ℕ) → leaf s ≡ true → Agree d t s → lo ≤ get_or s d 0 → get_or s d 0 < r → ⊥

-- every tuple of ts with each number below c in front, in order
unfoldable pub stack : ℕ → List (List ℕ) → List (List ℕ)
stack zero ts = []
stack (suc c) ts = stack c ts ++ map (λ (t : List ℕ). c ∷ t) ts

-- every tuple of k numbers below n, in order
unfoldable pub tuples : ℕ → ℕ → List (List ℕ)
tuples n zero = [] ∷ []
tuples n (suc k) = stack n (tuples n k)

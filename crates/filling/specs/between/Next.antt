-- The next number that passes a test, looked for among the numbers of a row, and around the corners of a tuple.
-- Assumes nothing.
use Rattle.std.specs.Prelude.{ℕ, ◌/◌, ◌≤◌, ◌<◌, ◌≡◌, Bool, true, false, List, length, get_or}
use Rattle.base.specs.Lists.{all, is_in}
use Rattle.space.specs.Arrays.{row4}
use Rattle.space.specs.between.Working.{around}
use Rattle.filling.specs.declared.Crowd.{Crowd}
use Rattle.filling.specs.declared.RowRead.{RowRead}
use Rattle.filling.specs.declared.Span.{Span}

-- no number of the row is below one before it
pub record NeverFalls (row : List ℕ) : Type 0 where
  pub up : (i k : ℕ) → i ≤ k → k < length row → get_or row i 0 ≤ get_or row k 0

-- the least from lo on that passes b, among the first k numbers of a row; hi where none below hi does
pub record LeastInRow (b : ℕ → Bool) (lo hi : ℕ) (row : List ℕ) (k r : ℕ) : Type 0 where
  pub le : r ≤ hi
  pub is : r < hi → (lo ≤ r) × (b r ≡ true)
  pub none : (i : ℕ) → i < k → lo ≤ get_or row i 0 → get_or row i 0 < r → b (get_or row i 0) ≡ false

-- the row is read up to place p: no number before that, from lo on, passes b
pub record ReadUpTo (b : ℕ → Bool) (lo : ℕ) (row : List ℕ) (p : ℕ) : Type 0 where
  pub low : p ≤ length row
  pub none : (i : ℕ) → i < p → lo ≤ get_or row i 0 → b (get_or row i 0) ≡ false

-- what is seen in a row: the least of its numbers, and the place that the row is read up to
abbrev pub Saw : (ℕ → Bool) → Span → List ℕ → RowRead → Type 0
Saw b s row r = LeastInRow b s.lo s.hi row (length row) r.least × ReadUpTo b s.lo row r.at

-- the least among the tetrahedra around the first k vertices of c, but for those left out
pub record NextAround (b : ℕ → Bool) (ls c : List ℕ) (lo hi k : ℕ) (out : List ℕ) (r : ℕ) : Type 0 where
  pub le : r ≤ hi
  pub is : r < hi → (lo ≤ r) × (b r ≡ true)
  pub none : (i j : ℕ) → i < k → is_in (get_or c i 0) out ≡ false → is_in (get_or c i 0) (row4 ls j) ≡ true → lo ≤ j → j < r → b j ≡ false

-- the four vertices left out
abbrev pub left_out : Crowd → List ℕ
left_out w = w.corners

-- no tetrahedron that passes b has all its vertices among those left out
pub record Aside (b : ℕ → Bool) (ls out : List ℕ) : Type 0 where
  pub apart : (j : ℕ) → j < length ls / 4 → b j ≡ true → all (λ v. is_in v out) (row4 ls j) ≡ false

-- the same among all
pub record NextOfAll (b : ℕ → Bool) (lo hi r : ℕ) : Type 0 where
  pub le : r ≤ hi
  pub from : lo ≤ hi → lo ≤ r
  pub is : r < hi → b r ≡ true
  pub none : (j : ℕ) → lo ≤ j → j < r → b j ≡ false

-- the row of each vertex of c is read up to its place
pub record AllReadUpTo (b : ℕ → Bool) (ls c : List ℕ) (lo : ℕ) (places : List ℕ) : Type 0 where
  pub at : (k : ℕ) → ReadUpTo b lo (around ls (get_or c k 0)) (get_or places k 0)

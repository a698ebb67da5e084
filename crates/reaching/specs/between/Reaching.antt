-- Looking ahead of a cell's face: what an edge of it must allow while the next corner is not yet known,
-- as far as the neighbour table and the hints of facets tell.
-- Assumes nothing.
use Rattle.std.specs.Prelude.{ℕ, ◌≤◌, ◌<◌, ◌≡◌, ◌⊎◌, Bool, true, not, ◌&&◌, List, eqb, leb, get_or}
use Rattle.facet_hints.specs.between.Hints.{hinted}
use Rattle.tets_around.specs.declared.Row.{Row}
use Rattle.neighbours.specs.between.Reading.{Rowed, row_in, InRow}
use Rattle.reaching.specs.declared.FaceEdge.{FaceEdge}

-- a table of n vertices and hints, which can be read
pub record Lent (n : ℕ) (table hs : List ℕ) : Type 0 where
  pub few : n ≤ 512
  pub rowed : Rowed n table

-- r is the row of u or that of w
pub record Chosen (n : ℕ) (table : List ℕ) (u w : ℕ) (r : Row) : Type 0 where
  pub is : (r ≡ row_in n table u) ⊎ (r ≡ row_in n table w)

-- x is another vertex than u and w, and the edge leaves it in: it is from the floor on, and none of o, p and q
unfoldable pub may_link : FaceEdge → ℕ → Bool
may_link e x =
    (not (eqb x e.u.0) && not (eqb x e.w.0)) && (leb e.floor x && (not (eqb x e.o.0) && (not (eqb x e.p.0) && not (eqb x e.q.0))))

-- v makes a facet with u and x: the three have their hint, and v is x itself or stands in the rows of both
pub record Faces (n : ℕ) (table hs : List ℕ) (u x v : ℕ) : Type 0 where
  pub hint : hinted hs u x v ≡ true
  pub stands : (v ≡ x) ⊎ (InRow table (row_in n table u) v × InRow table (row_in n table x) v)

-- x links w and v at u, where the edge goes from w to u: it makes a facet with u and w, and v one with u and x
pub record Links (n : ℕ) (table hs : List ℕ) (e : FaceEdge) (x v : ℕ) : Type 0 where
  pub may : may_link e x ≡ true
  pub near : Faces n table hs e.u.0 e.w.0 x
  pub facet : Faces n table hs e.u.0 x v

-- w, u and v can be corners of a face in this order: some vertex links w and v at u
pub record Closes (n : ℕ) (table hs : List ℕ) (e : FaceEdge) (v : ℕ) : Type 0 where
  pub via : ℕ
  pub by : Links n table hs e via v

-- r is `best`, or a number from lo on below it, and none that is asked for from lo on is less
pub record LeastAsked (asked : ℕ → Type 0) (lo best r : ℕ) : Type 0 where
  pub most : r ≤ best
  pub low : r < best → lo ≤ r
  pub least : (v : ℕ) → asked v → lo ≤ v → r ≤ v

-- ── what the loops ask for ──

-- asked for by one of the first i entries of a row
pub record ByRow (asked : ℕ → ℕ → Type 0) (row : List ℕ) (i v : ℕ) : Type 0 where
  pub place : ℕ
  pub before : place < i
  pub asks : asked (get_or row place 0) v

-- v is y and may make a facet with u and x, as far as the hints tell
pub record HintedNext (hs : List ℕ) (u x y v : ℕ) : Type 0 where
  pub same : v ≡ y
  pub hint : hinted hs u x v ≡ true

-- What the search is lent, and where it begins.
-- Assumes nothing.
use Rattle.std.specs.Prelude.{ℕ, ◌+◌, ◌/◌, ◌<◌, ◌≡◌, ◌⊎◌, true, List, ℤ, length}
use Rattle.space.specs.between.Working.{Close}
use Rattle.tets_around.specs.between.Index.{Labelled}
use Rattle.tets_around.specs.between.Arrays.{Arrays}
use Rattle.templates.specs.Tables.{template_of}
use Rattle.facet_hints.specs.between.Hints.{HintsOf}
use Rattle.neighbours.specs.between.Reading.{Tabled, row_in}
use Rattle.portions.specs.between.Tuples.{Agree}
use Rattle.rule.specs.between.Leaf.{leaf_in}
use Rattle.reaching.specs.between.Reaching.{Lent}
use Rattle.levels.specs.declared.Place.{Place}
use Rattle.levels.specs.between.Levels.{base}
use Rattle.candidates.specs.between.Met.{Served}

-- the mesh of n vertices in working arrays with its index, the hints of its facets and its neighbour table
pub record Ready (zs : List ℤ) (ls ps : List ℕ) (n : ℕ) (os es hs table : List ℕ) : Type 0 where
  pub arrays : Arrays zs ls ps n os es
  pub hinted : HintsOf ls hs
  pub tabled : Tabled ls n table

-- of that, what looking for the vertex at a place reads: it asks for rows that can be read, and rise
pub record Sought (zs : List ℤ) (n : ℕ) (hs table : List ℕ) : Type 0 where
  pub close : Close zs
  pub counted : length zs / 3 ≡ n
  pub lent : Lent n table hs
  pub served : (v : ℕ) → Served table (row_in n table v)

-- and what it promises for: labels of n vertices that the hints and the table are of
pub record Drawn (ls : List ℕ) (n : ℕ) (hs table : List ℕ) : Type 0 where
  pub labelled : Labelled ls n
  pub hinted : HintsOf ls hs
  pub tabled : Tabled ls n table

-- the place is one of kind k; it is its last
pub record OfKind (k : ℕ) (place : Place) : Type 0 where
  pub row : place.row ≡ base k + place.at
  pub inside : place.at < (template_of k).corners

pub record Last (k : ℕ) (place : Place) : Type 0 where
  pub row : place.row ≡ base k + place.at
  pub corners : place.at + 1 ≡ (template_of k).corners

-- the search for tuples after the mark begins at place r:
-- the last, or one at which no listed tuple goes on with the mark's entry
pub record Begins (zs : List ℤ) (n : ℕ) (hs table : List ℕ) (k : ℕ) (mark : List ℕ) (r : ℕ) : Type 0 where
  pub within : r < (template_of k).corners
  pub last : (ls ps : List ℕ) → Drawn ls n hs table → (r + 1 ≡ (template_of k).corners) ⊎ ((s : List ℕ) → leaf_in zs ls ps k s ≡ true → Agree (r + 1) mark s → ⊥)

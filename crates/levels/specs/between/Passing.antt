-- The test of one level: what a tuple must pass at place d, by its entries up to there, for a cell to go on from them.
-- Assumes nothing.
use Rattle.std.specs.Prelude.{ℕ, ◌<◌, Bool, not, ◌&&◌, List, ltb, ℤ, get_or, set}
use Rattle.base.specs.Lists.{all, up_to, is_in}
use Rattle.cells.specs.between.Rows.{sound_by}
use Rattle.facet_hints.specs.between.Hints.{faces_hinted}
use Rattle.portions.specs.between.Tuples.{front}
use Rattle.levels.specs.declared.Place.{Place}
use Rattle.levels.specs.between.Levels.{lesser, level_triangles, level_quads, level_triples}

-- the vertex at place d is new, and above those that it must be above
unfoldable pub is_new_above : ℕ → ℕ → List ℕ → Bool
is_new_above x d s = not (is_in (get_or s d 0) (front d s)) && all (λ k. ltb (get_or s k 0) (get_or s d 0)) (up_to (get_or lesser x 0))

-- and of the faces and the corner triples that it completes each passes its test, the faces by their hints;
-- x is the row of the level's tables
unfoldable pub passes_level : List ℤ → List ℕ → ℕ → ℕ → List ℕ → Bool
passes_level zs hs x d s =
    is_new_above x d s && faces_hinted hs s (level_triangles x) (level_quads x) && sound_by zs s (level_triples x)

-- the tables have the row, and tuples the place
pub record Placed (p : Place) : Type 0 where
  pub row : p.row < 19
  pub at : p.at < 8

-- the tuple passes the test of its place with v there
abbrev pub passes_with : List ℤ → List ℕ → Place → ℕ → Bool
passes_with zs hs p v = passes_level zs hs p.row p.at (set p.tuple p.at v)

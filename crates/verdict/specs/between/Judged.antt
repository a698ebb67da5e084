-- What is known of a template's tables, and what is told of a cell.
-- Assumes nothing.
use Rattle.std.specs.Prelude.{ℕ, ◌≡◌, Bool, ◌&&◌, List, Option, is_some, IfSome}
use Rattle.space.specs.Mesh.{Mesh}
use Rattle.templates.specs.Tables.{Template}
use Rattle.cells.specs.Cells.{inside, is_tuple, is_sound, is_filled, is_one_part, numbers_of}
use Rattle.cells.specs.between.Rows.{threes, fours}
use Rattle.filling.specs.declared.Tets.{Tets}
use Rattle.filling.specs.between.Numbered.{Numbered}

-- these tables are the template's: how many corners, its triangles, its quadrilaterals,
-- its corner triples and its triples on no face
pub record TablesOf (t : Template) (k : ℕ) (ts qs cs ws : List ℕ) : Type 0 where
  pub corners : k ≡ t.corners
  pub triangles : threes ts ≡ t.triangles
  pub quads : fours qs ≡ t.quads
  pub triples : fours cs ≡ t.triples
  pub within : threes ws ≡ inside t

-- conditions 1, 4, 5 and 6
unfoldable pub is_solid : Mesh → Template → List ℕ → Bool
is_solid m t c = is_tuple m t c && is_sound m t c && (is_filled m t c && is_one_part m t c)

-- tetrahedra are told exactly where `test` says yes of the tuple c, and they are the tuple's
pub record Tells (test : Mesh → Template → List ℕ → Bool) (m : Mesh) (t : Template) (c : List ℕ) (v : Option Tets) : Type 0 where
  pub is : is_some v ≡ test m t c
  pub tets : IfSome v (λ f. Numbered (numbers_of m t c) f)

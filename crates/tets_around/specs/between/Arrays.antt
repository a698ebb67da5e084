-- A mesh that was accepted, in working arrays with its index: what everyone who asks about its cells is lent.
-- Assumes nothing.
use Rattle.std.specs.Prelude.{ℕ, ◌/◌, ◌≤◌, ◌≡◌, List, ℤ, length}
use Rattle.space.specs.between.Working.{Close}
use Rattle.tets_around.specs.between.Index.{Indexed}

-- the mesh of n vertices: its coordinates, in bounds, three a vertex; its labels, four a tetrahedron, with their index;
-- a part a tetrahedron
pub record Arrays (zs : List ℤ) (ls ps : List ℕ) (n : ℕ) (offsets entries : List ℕ) : Type 0 where
  pub close : Close zs
  pub counted : length zs / 3 ≡ n
  pub few : n ≤ 512
  pub indexed : Indexed ls n offsets entries
  pub parted : length ps ≡ length ls / 4

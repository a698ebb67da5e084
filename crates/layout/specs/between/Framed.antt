-- What a header that is not refused tells.
-- Assumes nothing.
use Rattle.std.specs.Prelude.{ℕ, ◌+◌, ◌*◌, ◌≤◌, ◌≡◌, List, length}
use Rattle.layout.specs.Layout.{vertices, tets}

-- what a header that is not refused tells: n vertices and t tetrahedra, which fill the file to its end
pub record Framed (f : List ℕ) (n t : ℕ) : Type 0 where
  pub vertex : n ≡ vertices f
  pub tet : t ≡ tets f
  pub few_vertices : n ≤ 512
  pub few_tets : t ≤ 2048
  pub whole : 24 + 12 * n + 10 * t ≡ length f

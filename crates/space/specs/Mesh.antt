-- A mesh that is already read: its points and its tetrahedra.
-- Assumes nothing.
use Rattle.std.specs.Prelude.{ℕ, Bool, List, pos, get_or}
use Rattle.base.specs.Lists.{all, any, is_in}
use Rattle.space.specs.declared.Point.{Point}

-- four vertex numbers, and the part
pub record Tetrahedron : Type 0 where
  pub vertices : List ℕ
  pub part : ℕ

pub record Mesh : Type 0 where
  pub points : List Point
  pub tets : List Tetrahedron

abbrev pub origin : Point
origin = record { x = pos 0; y = pos 0; z = pos 0 }

-- the point of vertex v
abbrev pub point : Mesh → ℕ → Point
point m v = get_or m.points v origin

-- each of these vertices is one of the tetrahedron's
abbrev pub holds : List ℕ → Tetrahedron → Bool
holds vs e = all (λ v. is_in v e.vertices) vs

-- some tetrahedron holds them all: of two vertices, they are neighbours; of three, they are a facet
unfoldable pub together : Mesh → List ℕ → Bool
together m vs = any (holds vs) m.tets

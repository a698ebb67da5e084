-- Which tetrahedra have given vertices, over the vertex numbers of the tetrahedra, four to each.
-- Assumes nothing.
use Rattle.std.specs.Prelude.{ℕ, ◌/◌, Bool, List, length}
use Rattle.base.specs.Lists.{all, any, count, up_to, is_in}
use Rattle.space.specs.Arrays.{row4}

-- each of vs is a vertex of tetrahedron i
abbrev pub has_all : List ℕ → List ℕ → ℕ → Bool
has_all ls vs i = all (λ x. is_in x (row4 ls i)) vs

-- how many tetrahedra have all of vs, and whether one does
abbrev pub sharers : List ℕ → List ℕ → ℕ
sharers ls vs = count (has_all ls vs) (up_to (length ls / 4))

abbrev pub together_in : List ℕ → List ℕ → Bool
together_in ls vs = any (has_all ls vs) (up_to (length ls / 4))

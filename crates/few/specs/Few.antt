-- How many tetrahedra a cell can have, counted twice. A tetrahedron on the cell's corners has four of their triples as
-- facets, so over all triples of corners the numbers of tetrahedra that have each add up to four times as many as there
-- are; and condition 5 bounds each of these numbers.
-- Assumes nothing.
use Rattle.std.specs.Prelude.{ℕ, ◌+◌, ◌*◌, ◌/◌, ◌≤◌, ◌≡◌, Bool, true, ◌&&◌, eqb, length}
use mathlib.Core.List.{List, [], ◌∷◌, ◌++◌, map, Memᴰ}
use Rattle.base.specs.Lists.{all, spread, is_in, distinct}
use Rattle.space.specs.Mesh.{Mesh, Tetrahedron}
use Rattle.templates.specs.Tables.{Template, templates, template_of}
use Rattle.cells.specs.Cells.{one_diagonal, other_diagonal, corner3, inside, sides_of, is_tuple, is_filled, numbers_of}
use Rattle.cells.specs.Full.{Cell, full_list}

-- the sum of f over a list
abbrev pub sum : {A : Type 0} → (A → ℕ) → List A → ℕ
sum f [] = 0
sum f (x ∷ xs) = f x + sum f xs

-- the tetrahedron has four vertices, all different: of an accepted mesh each has
unfoldable pub is_apart : Tetrahedron → Bool
is_apart e = eqb (length e.vertices) 4 && distinct e.vertices

-- and each is one of these
unfoldable pub is_on : List ℕ → Tetrahedron → Bool
is_on c e = is_apart e && all (λ v. is_in v c) e.vertices

-- of any tetrahedra on different corners c: by triples of corners, and by tetrahedra
abbrev pub Counted : List ℕ → List Tetrahedron → Type 0
Counted c es =
    distinct c ≡ true → all (is_on c) es ≡ true
    → sum (sides_of (λ e. e.vertices) es c) (corner3 (length c)) ≡ 4 * length es

-- the triples of a template's corners, face by face, and then those on no face
unfoldable pub triples_of : Template → List (List ℕ)
triples_of t = t.triangles ++ spread (λ q. one_diagonal q ++ other_diagonal q) t.quads ++ inside t

-- the most that condition 5 permits: a triangle is a facet of one; of a quadrilateral's four triangles two are facets of
-- one each and two of at most two; and any other triple of at most two
unfoldable pub most : Template → ℕ
most t = (length t.triangles + 6 * length t.quads + 2 * length (inside t)) / 4

-- of any mesh whose tetrahedra have four different vertices each
pub record Few (m : Mesh) : Type 0 where
  -- a tuple that meets conditions 1 and 5 has at most so many
  pub numbers : {t : Template} → Memᴰ t templates → (c : List ℕ)
      → is_tuple m t c ≡ true → is_filled m t c ≡ true → length (numbers_of m t c) ≤ most t
  -- which are 25 for a hexahedron, 8 for a prism and 3 for a pyramid
  pub mosts : map most templates ≡ 25 ∷ 8 ∷ 3 ∷ []
  -- so every cell of the list has, and none more than 25
  pub listed : {d : Cell} → Memᴰ d (full_list m)
      → (length d.tets ≤ most (template_of d.kind)) × (length d.tets ≤ 25)

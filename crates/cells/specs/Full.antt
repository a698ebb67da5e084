-- The full list of a mesh's cells: of every kind the tuples in least form that are cells, each with its tetrahedra.
-- Assumes nothing.
use Rattle.std.specs.Prelude.{ℕ, Bool, not, ◌&&◌, List, [], ◌∷◌, ◌++◌, map, ltb, length, get_or}
use Rattle.base.specs.Lists.{all, keep, up_to, spread, is_in}
use Rattle.space.specs.Mesh.{Mesh}
use Rattle.templates.specs.Tables.{Placing, Template, templates, at}
use Rattle.cells.specs.Cells.{is_cell, numbers_of}

-- v may come at a place after the vertices s: it is new, and above those that it must be above
unfoldable pub allowed : Placing → List ℕ → ℕ → Bool
allowed p s v = not (is_in v s) && all (λ k. ltb (get_or s k 0) v) p.below

-- every tuple of vertices below n that goes on from s, where ok says what may come at a place; in search order, rising
unfoldable pub grow : (Placing → List ℕ → ℕ → Bool) → ℕ → List Placing → List ℕ → List (List ℕ)
grow ok n [] s = s ∷ []
grow ok n (p ∷ ps) s = spread (λ v. grow ok n ps (s ++ (v ∷ []))) (keep (ok p s) (up_to n))

-- the tuples of a kind in least form, in letter order
unfoldable pub universe : ℕ → Template → List (List ℕ)
universe n t = map (λ s. at s t.places) (grow allowed n t.search [])

pub record Cell : Type 0 where
  pub kind : ℕ
  pub corners : List ℕ
  pub tets : List ℕ

abbrev pub cell : ℕ → List ℕ → List ℕ → Cell
cell k c ts = record { kind = k; corners = c; tets = ts }

-- the cell of a template that a tuple of a mesh's vertices makes: every cell is built here
abbrev pub cell_in : Mesh → Template → List ℕ → Cell
cell_in m t c = cell t.kind c (numbers_of m t c)

unfoldable pub cells_of : Mesh → Template → List Cell
cells_of m t = map (cell_in m t) (keep (is_cell m t) (universe (length m.points) t))

-- kinds 8, 6, 5, and within a kind by the tuples in search order
unfoldable pub full_list : Mesh → List Cell
full_list m = spread (cells_of m) templates

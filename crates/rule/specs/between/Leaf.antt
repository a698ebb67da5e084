-- The search of one kind; a tuple's entries are in search order, and of a list the first count.
-- Assumes nothing.
use Rattle.std.specs.Prelude.{ℕ, ◌<◌, ◌≡◌, Bool, true, false, ◌&&◌, List, [], ◌∷◌, ◌++◌, ltb, ℤ, replicate}
use Rattle.space.specs.Mesh.{Mesh}
use Rattle.space.specs.Arrays.{mesh_of}
use Rattle.templates.specs.Tables.{Placing, Template, template_of, at}
use Rattle.least.specs.Least.{is_least}
use Rattle.cells.specs.Cells.{is_cell}
use Rattle.cells.specs.Full.{Cell, cell_in, allowed}
use Rattle.portions.specs.between.Tuples.{Agree, LeastAfter}

-- the tuple is in least form, and it is a cell
unfoldable pub is_leaf : Mesh → Template → List ℕ → Bool
is_leaf m t s = is_least t (at s t.places) && is_cell m t (at s t.places)

-- the same place by place: the vertices u come after s, one at each place, and each is below n and may come there
unfoldable pub placed_after : ℕ → List Placing → List ℕ → List ℕ → Bool
placed_after n [] s [] = true
placed_after n [] s (v ∷ u) = false
placed_after n (p ∷ ps) s [] = false
placed_after n (p ∷ ps) s (v ∷ u) = let r = placed_after n ps (s ++ (v ∷ [])) u in ltb v n && (allowed p s v && r)

-- the cell that a tuple in search order makes
unfoldable pub cell_at : Mesh → Template → List ℕ → Cell
cell_at m t s = cell_in m t (at s t.places)

-- the same of a kind, in the mesh that the arrays say: whether a tuple is listed, and the tetrahedra of its cell
abbrev pub leaf_in : List ℤ → List ℕ → List ℕ → ℕ → List ℕ → Bool
leaf_in zs ls ps k s = is_leaf (mesh_of zs ls ps) (template_of k) s

abbrev pub leaf_tets : List ℤ → List ℕ → List ℕ → ℕ → List ℕ → List ℕ
leaf_tets zs ls ps k s = (cell_at (mesh_of zs ls ps) (template_of k) s).tets

-- the search of one kind for the mark of kind a with the numbers vs:
-- none for a kind above the mark's, from vs on for its kind, and all of a kind below
pub data Searched (m : Mesh) (t : Template) (a : ℕ) (vs : List ℕ) : Bool → List ℕ → Type 0 where
  past : {r : List ℕ} → a < t.kind → Searched m t a vs false r
  within : {found : Bool} {r : List ℕ} (v : List ℕ) → a ≡ t.kind → Agree t.corners v (at vs t.order)
      → LeastAfter t.corners (is_leaf m t) v found r → Searched m t a vs found r
  whole : {found : Bool} {r : List ℕ} → t.kind < a → LeastAfter t.corners (is_leaf m t) (replicate 8 0) found r → Searched m t a vs found r

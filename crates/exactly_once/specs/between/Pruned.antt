-- The same list by a search that leaves a vertex out as soon as an edge is missing.
-- Assumes nothing.
use Rattle.std.specs.Prelude.{ℕ, Bool, ◌&&◌, List, [], ◌∷◌, map, length, get_or}
use Rattle.base.specs.Lists.{all, keep, spread}
use Rattle.templates.specs.Tables.{Placing, Template, templates, at}
use Rattle.space.specs.Mesh.{Mesh, together}
use Rattle.cells.specs.Cells.{is_cell}
use Rattle.cells.specs.Full.{Cell, cell_in, allowed, grow}

-- v is a neighbour of the vertices that the place is joined to
unfoldable pub linked : Mesh → Placing → List ℕ → ℕ → Bool
linked m p s v = all (λ k. together m (get_or s k 0 ∷ v ∷ [])) p.joined

unfoldable pub pruned_of : Mesh → Template → List Cell
pruned_of m t =
    map (cell_in m t)
    (keep (is_cell m t) (map (λ s. at s t.places) (grow (λ p s v. allowed p s v && linked m p s v) (length m.points) t.search [])))

unfoldable pub pruned_list : Mesh → List Cell
pruned_list m = spread (pruned_of m) templates

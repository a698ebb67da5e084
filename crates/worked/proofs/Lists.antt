-- The rows on full lists hold: each list is computed once, by the pruned search, and the rows follow from it.
-- Assumes nothing.
use Prim.Native.Nat.{ℕ}
use mathlib.Core.Path.{◌≡◌, refl, sym, ◌∙◌}
use mathlib.Core.List.{[], ◌∷◌}
use lib.IntN.{pos}
use Rattle.base.specs.Lists.{equal}
use Rattle.templates.specs.Tables.{hexahedron}
use Rattle.cells.specs.Cells.{numbers_from, numbers_of, is_cell, first_failing}
use Rattle.cells.specs.Full.{allowed, grow, cells_of, full_list}
use Rattle.exactly_once.specs.between.Pruned.{linked, pruned_of, pruned_list}
use Rattle.exactly_once.proofs.Search.{found_all, found_hexahedra}
use Rattle.worked.specs.Meshes.{mesh_p, mesh_p', mesh_c, mesh_c', cell_c, list_p, list_p', list_c}
use Rattle.worked.specs.Questions.{listed, counted, judged, counts, with_tets, ask, RowsHold}
use Rattle.worked.specs.Rows.{lists}
use Rattle.worked.proofs.Opened.{weighing}

-- what a list of cells is computed by
unfoldable opened : ℕ
unfolding weighing numbers_from numbers_of is_cell allowed grow linked pruned_of pruned_list
opened = 0

pub full_p : full_list mesh_p ≡ list_p
unfolding opened
full_p = sym (found_all mesh_p) ∙ refl

full_p' : full_list mesh_p' ≡ list_p'
unfolding opened
full_p' = sym (found_all mesh_p') ∙ refl

pub full_c : full_list (mesh_c 0) ≡ list_c
unfolding opened
full_c = sym (found_all (mesh_c 0)) ∙ refl

pub full-mixed : full_list (mesh_c 1) ≡ []
unfolding opened
full-mixed = sym (found_all (mesh_c 1)) ∙ refl

hexahedra_c' : cells_of mesh_c' hexahedron ≡ cell_c ∷ []
unfolding opened
hexahedra_c' = sym (found_hexahedra mesh_c') ∙ refl

pub lists_hold : RowsHold lists
unfolding opened ask counts with_tets equal first_failing
lists_hold = λ i.
    listed (full_p i) ∷
    judged (pos 8 ∷ pos 8 ∷ pos 8 ∷ pos 0 ∷ []) 4 ∷
    judged (pos 0 ∷ pos 8 ∷ pos 8 ∷ pos 8 ∷ []) 4 ∷
    listed (full_c i) ∷
    counted (counts (8 ∷ 6 ∷ 5 ∷ []) (full_c i)) ∷
    listed (full-mixed i) ∷
    listed (with_tets (0 ∷ 4 ∷ []) (full_c i)) ∷
    listed (full_p' i) ∷
    listed (hexahedra_c' i) ∷
    []

-- Each arrangement of corners that meets the conditions is listed once, whichever way it is turned,
-- with exactly its own tetrahedra.
-- Nothing else is listed.
-- Assumes nothing.
use Rattle.std.specs.Prelude.{ℕ, ◌≡◌, Bool, true, ◌&&◌, eqb, length, get_or}
use mathlib.Core.List.{List, [], ◌∷◌, Memᴰ}
use Rattle.base.specs.Lists.{any, keep, up_to, equal}
use Rattle.templates.specs.Tables.{Template, templates, at}
use Rattle.space.specs.Mesh.{Mesh, Tetrahedron}
use Rattle.cells.specs.Cells.{is_cell, belongs, numbers_of}
use Rattle.cells.specs.Full.{Cell, cell_in, full_list}
use Rattle.least.specs.Least.{is_least}

-- the entry is a turn of the tuple c of this kind
unfoldable pub is_turn : Template → List ℕ → Cell → Bool
is_turn t c d = eqb d.kind t.kind && any (λ r. equal (at c r) d.corners) t.turns

abbrev pub no_tetrahedron : Tetrahedron
no_tetrahedron = record { vertices = []; part = 0 }

pub record ListedOnce (m : Mesh) : Type 0 where
  -- of a tuple that is a cell, the entries that are its turns are one entry, the cell of one turn,
  -- and its tetrahedra are the tuple's
  pub listed : {t : Template} → Memᴰ t templates → (c : List ℕ) → is_cell m t c ≡ true
      → (r : List ℕ) × Memᴰ r t.turns × (keep (is_turn t c) (full_list m) ≡ cell_in m t (at c r) ∷ [])
      × (numbers_of m t (at c r) ≡ numbers_of m t c)
  -- whichever way a tuple is turned, these entries are the same
  pub turned : {t : Template} → Memᴰ t templates → {r : List ℕ} → Memᴰ r t.turns → (c : List ℕ)
      → length c ≡ t.corners
      → keep (is_turn t (at c r)) (full_list m) ≡ keep (is_turn t c) (full_list m)
  -- each entry is a cell in least form, with its tetrahedra, and no other entry is a turn of it
  pub entry : {d : Cell} → Memᴰ d (full_list m)
      → (t : Template) × Memᴰ t templates × (is_cell m t d.corners ≡ true) × (is_least t d.corners ≡ true)
      × (d ≡ cell_in m t d.corners) × (keep (is_turn t d.corners) (full_list m) ≡ d ∷ [])
  -- those tetrahedra are all that belong to the tuple, and no other, by their numbers, rising
  pub own : (t : Template) (c : List ℕ) → numbers_of m t c ≡ keep (λ i. belongs m t c (get_or m.tets i no_tetrahedron)) (up_to (length m.tets))

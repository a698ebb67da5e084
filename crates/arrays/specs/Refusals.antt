-- The refusals of a mesh file, in the order in which they are tested, and what is answered of a file with bytes f.
-- Assumes nothing.
use Rattle.std.specs.Prelude.{ℕ, ◌/◌, not, List, [], ◌∷◌, ◌++◌, ℤ, length, Result, Ok}
use Rattle.base.specs.Lists.{all}
use Rattle.base.specs.Refusals.{Refusal, refuse, first_of}
use Rattle.refusals.specs.declared.Refusal.{Refusal as Refused}
use Rattle.refusals.specs.Named.{unless}
use Rattle.space.specs.Box.{near}
use Rattle.layout.specs.Layout.{vertices, tets, length_right, counts_right, layout_right, coords_of, labels_of}
use Rattle.tets.specs.Tets.{any_outside, any_twice, any_flat}
use Rattle.facets.specs.Facets.{any_crowded, any_folded}
use Rattle.arrays.specs.declared.Counts.{Counts}

-- ---- the list

-- of the header
abbrev pub of_header : List ℕ → List Refusal
of_header f =
    refuse 1 (not (length_right f))
    ∷ refuse 2 (not (counts_right f))
    ∷ refuse 3 (not (layout_right f))
    ∷ []

-- of the numbers: zs are the coordinates, three a vertex, and ls the labels, four a tetrahedron
abbrev pub of_numbers : List ℤ → List ℕ → List Refusal
of_numbers zs ls =
    refuse 4 (not (all near zs))
    ∷ refuse 5 (any_outside (length zs / 3) ls)
    ∷ refuse 6 (any_twice ls)
    ∷ []

-- of the tetrahedra
abbrev pub of_tets : List ℤ → List ℕ → List Refusal
of_tets zs ls =
    refuse 7 (any_flat zs ls)
    ∷ refuse 8 (any_crowded ls)
    ∷ refuse 9 (any_folded zs ls)
    ∷ []

-- 1 to 6, for a reader that asks no more than what the numbers of a file name
abbrev pub readable : List ℕ → List Refusal
readable f = of_header f ++ of_numbers (coords_of f) (labels_of f)

-- 1 to 9, each tested over the whole file before the next
abbrev pub refusals : List ℕ → List Refusal
refusals f = readable f ++ of_tets (coords_of f) (labels_of f)

unfoldable pub refusal : List ℕ → ℕ
refusal f = first_of (refusals f)

-- ---- the answers

-- n vertices and t tetrahedra
abbrev pub accepted : ℕ → ℕ → Result Counts Refused
accepted n t = Ok (record { vertices = n; tets = t })

-- the refusal k, or the counts where there is none
abbrev pub answered : ℕ → List ℕ → Result Counts Refused
answered k f = unless k (record { vertices = vertices f; tets = tets f })

-- of the file
abbrev pub checked : List ℕ → Result Counts Refused
checked f = answered (refusal f) f

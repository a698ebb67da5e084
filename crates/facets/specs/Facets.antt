-- What is asked of the tetrahedra of a mesh in working arrays that share a facet: refusals 8 and 9.
-- zs are the coordinates, three a vertex; ls the labels, four a tetrahedron; e and m are numbers of tetrahedra,
-- a, b, c, u, v, w numbers of vertices.
-- Assumes nothing.
use Rattle.std.specs.Prelude.{ℕ, ◌+◌, ◌*◌, Bool, true, false, not, ◌&&◌, ◌||◌, List, [], ◌∷◌, leb, eqb, ℤ, pos, negsuc, get_or}
use Rattle.base.specs.Lists.{any, is_in}
use Rattle.space.specs.Box.{is_above0}
use Rattle.space.specs.Arrays.{row4}
use Rattle.tets_around.specs.Sharing.{has_all, sharers}
use Rattle.tets.specs.Tets.{some_tet, box_in}

-- the test passes at some facet of tetrahedron e; it is given the fourth vertex, then the facet's three
abbrev pub some_facet : (ℕ → ℕ → ℕ → ℕ → Bool) → List ℕ → ℕ → Bool
some_facet q ls e =
    let a = get_or ls (4 * e) 0 in
    let b = get_or ls (4 * e + 1) 0 in
    let c = get_or ls (4 * e + 2) 0 in
    let d = get_or ls (4 * e + 3) 0 in
    q a b c d || (q b a c d || (q c a b d || q d a b c))

abbrev pub is_below0 : ℤ → Bool
is_below0 (pos k) = false
is_below0 (negsuc k) = true

-- one is above 0 and the other below
unfoldable pub opposite : ℤ → ℤ → Bool
opposite x y = (is_above0 x && is_below0 y) || (is_below0 x && is_above0 y)

-- ---- what is wrong at the facets of one tetrahedron

-- three or more tetrahedra have the facet a, b, c
unfoldable pub full : List ℕ → ℕ → ℕ → ℕ → ℕ → Bool
full ls u a b c = leb 3 (sharers ls (a ∷ b ∷ c ∷ []))

unfoldable pub crowded : List ℕ → ℕ → Bool
crowded ls e = some_facet (full ls) ls e

-- w is off the facet a, b, c, and not strictly on the other side of it from u
unfoldable pub astray : List ℤ → ℕ → ℕ → ℕ → ℕ → ℕ → Bool
astray zs u a b c w = not (is_in w (a ∷ b ∷ c ∷ [])) && not (opposite (box_in zs a b c u) (box_in zs a b c w))

-- m is another tetrahedron than e with the facet a, b, c, and its fourth vertex is astray
unfoldable pub clashes : List ℤ → List ℕ → ℕ → ℕ → ℕ → ℕ → ℕ → ℕ → Bool
clashes zs ls e u a b c m =
    not (eqb m e) && (has_all ls (a ∷ b ∷ c ∷ []) m && any (astray zs u a b c) (row4 ls m))

-- some tetrahedron clashes with e at the facet a, b, c, whose fourth vertex in e is u
unfoldable pub clashing : List ℤ → List ℕ → ℕ → ℕ → ℕ → ℕ → ℕ → Bool
clashing zs ls e u a b c = some_tet ls (clashes zs ls e u a b c)

unfoldable pub folded : List ℤ → List ℕ → ℕ → Bool
folded zs ls e = some_facet (clashing zs ls e) ls e

-- ---- the refusals

-- 8: three or more tetrahedra share a facet
abbrev pub any_crowded : List ℕ → Bool
any_crowded ls = some_tet ls (crowded ls)

-- 9: two tetrahedra share a facet, and their fourth vertices are not strictly on its opposite sides
abbrev pub any_folded : List ℤ → List ℕ → Bool
any_folded zs ls = some_tet ls (folded zs ls)

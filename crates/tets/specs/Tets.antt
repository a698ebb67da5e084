-- What is asked of each tetrahedron of a mesh in working arrays: refusals 5, 6 and 7.
-- zs are the coordinates, three a vertex; ls the labels, four a tetrahedron;
-- e is the number of a tetrahedron, a, b, c, d numbers of vertices.
-- Assumes nothing.
use Rattle.std.specs.Prelude.{ℕ, ◌+◌, ◌*◌, ◌/◌, Bool, not, List, [], leb, ℤ, length, get_or}
use Rattle.base.specs.Lists.{any, up_to, distinct}
use Rattle.space.specs.Box.{box, is_above0}
use Rattle.space.specs.Mesh.{point}
use Rattle.space.specs.Arrays.{row4, mesh_of}

-- the test passes at some tetrahedron
abbrev pub some_tet : List ℕ → (ℕ → Bool) → Bool
some_tet ls q = any q (up_to (length ls / 4))

unfoldable pub box_in : List ℤ → ℕ → ℕ → ℕ → ℕ → ℤ
box_in zs a b c d =
    let p = point (mesh_of zs [] []) in
    box (p a) (p b) (p c) (p d)

-- ---- what is wrong with one tetrahedron

unfoldable pub outside : ℕ → List ℕ → ℕ → Bool
outside n ls e = any (leb n) (row4 ls e)

unfoldable pub twice : List ℕ → ℕ → Bool
twice ls e = not (distinct (row4 ls e))

unfoldable pub flat : List ℤ → List ℕ → ℕ → Bool
flat zs ls e =
    not (is_above0 (box_in zs (get_or ls (4 * e) 0) (get_or ls (4 * e + 1) 0) (get_or ls (4 * e + 2) 0) (get_or ls (4 * e + 3) 0)))

-- ---- the refusals

-- 5: a tetrahedron names a vertex that is not below n
abbrev pub any_outside : ℕ → List ℕ → Bool
any_outside n ls = some_tet ls (outside n ls)

-- 6: a tetrahedron names a vertex twice
abbrev pub any_twice : List ℕ → Bool
any_twice ls = some_tet ls (twice ls)

-- 7: the box of a tetrahedron is not above 0
abbrev pub any_flat : List ℤ → List ℕ → Bool
any_flat zs ls = some_tet ls (flat zs ls)

-- Two tetrahedra with a facet in common, and the pyramids of them that are tried.
-- ls are the labels, four a tetrahedron; e and m are numbers of tetrahedra, i a place in one.
-- Assumes nothing.
use Rattle.std.specs.Prelude.{ℕ, ◌+◌, ◌*◌, ◌%◌, Bool, true, false, not, cond, List, [], ◌∷◌, eqb, ltb, get_or, Option, None, Some}
use Rattle.base.specs.Lists.{keep, is_in, up_to}
use Rattle.space.specs.Arrays.{row4}
use Rattle.space.specs.declared.Vertex.{Vertex}
use Rattle.joints.specs.declared.Joint.{Joint}

-- ---- the pair

abbrev pub label_at : List ℕ → ℕ → ℕ → Vertex
label_at ls e i = record { 0 = get_or ls (4 * e + i) 0 }

-- m does not have the vertex at place i of the tetrahedron whose labels start at `at`
abbrev pub lacks : List ℕ → ℕ → ℕ → ℕ → Bool
lacks ls at m i = not (is_in (get_or ls (at + i) 0) (row4 ls m))

-- the only place of a list; 4 where there is not just one
abbrev pub only : List ℕ → ℕ
only [] = 4
only (i ∷ []) = i
only (i ∷ j ∷ l) = 4

-- the place of the vertex of e that m does not have; 4 where there is not just one
unfoldable pub lone_of : List ℕ → ℕ → ℕ → ℕ
lone_of ls e m = only (keep (lacks ls (4 * e) m) (up_to 4))

-- the facet of e opposite its place i, with w behind it
unfoldable pub across_of : List ℕ → ℕ → ℕ → Vertex → Joint
across_of ls e i w =
    let y = label_at ls e ((i + 2) % 4) in
    let z = label_at ls e ((i + 3) % 4) in
    let even = eqb (i % 2) 0 in
    record { u = label_at ls e i; w = w; x = label_at ls e ((i + 1) % 4); y = cond even y z; z = cond even z y }

-- the pair of e and m, where each has just one vertex that the other does not have; none where they have no facet in
-- common
unfoldable pub joint_of : List ℕ → ℕ → ℕ → Option Joint
joint_of ls e m =
    let i = lone_of ls e m in
    let j = lone_of ls m e in
    cond (eqb i 4) None (cond (eqb j 4) None (Some (across_of ls e i (label_at ls m j))))

-- ---- its pyramids

-- the base with the lesser of a and c first, and the apex o
unfoldable pub lesser_first : ℕ → ℕ → ℕ → ℕ → ℕ → List ℕ
lesser_first a b c d o = cond (ltb c a) (c ∷ d ∷ a ∷ b ∷ o ∷ 0 ∷ 0 ∷ 0 ∷ []) (a ∷ b ∷ c ∷ d ∷ o ∷ 0 ∷ 0 ∷ 0 ∷ [])

-- the base with its least corner first, and the apex o
unfoldable pub least_first : ℕ → ℕ → ℕ → ℕ → ℕ → List ℕ
least_first a b c d o =
    let s = lesser_first a b c d o in
    let t = lesser_first b c d a o in
    cond (ltb (get_or s 0 0) (get_or t 0 0)) s t

-- the pyramid with the apex z where k is 0, x where it is 1, and else y
unfoldable pub pyramid_of : Joint → ℕ → List ℕ
pyramid_of p k =
    cond (eqb k 0) (least_first p.u.0 p.x.0 p.w.0 p.y.0 p.z.0)
    (cond (eqb k 1) (least_first p.u.0 p.y.0 p.w.0 p.z.0 p.x.0)
    (least_first p.u.0 p.z.0 p.w.0 p.x.0 p.y.0))

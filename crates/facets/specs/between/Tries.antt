-- What is asked at a facet as the code hands it on, and what one trial of a tetrahedron there tells.
-- Assumes nothing.
use Rattle.std.specs.Prelude.{ℕ, ◌+◌, ◌*◌, ◌/◌, ◌<◌, ◌≡◌, Bool, true, List, [], ◌∷◌, ℤ, length, get_or}
use Rattle.space.specs.declared.Vertex.{Vertex}
use Rattle.space.specs.declared.Tet.{Tet}
use Rattle.facets.specs.declared.Facet.{Facet}
use Rattle.facets.specs.Facets.{clashes, clashing}

abbrev pub facet_of : Tet → Vertex → Vertex → Vertex → Vertex → Facet
facet_of e u a b c = record { e = e; u = u; a = a; b = b; c = c }

-- the four facets of a tetrahedron
abbrev pub facets_of : List ℕ → Tet → List Facet
facets_of ls e =
    let a : Vertex = record { 0 = get_or ls (4 * e.0) 0 } in
    let b : Vertex = record { 0 = get_or ls (4 * e.0 + 1) 0 } in
    let c : Vertex = record { 0 = get_or ls (4 * e.0 + 2) 0 } in
    let d : Vertex = record { 0 = get_or ls (4 * e.0 + 3) 0 } in
    facet_of e a b c d ∷ facet_of e b a c d ∷ facet_of e c a b d ∷ facet_of e d a b c ∷ []

abbrev pub at_facet : {A : Type 0} → (ℕ → ℕ → ℕ → ℕ → A) → Facet → A
at_facet q f = q f.u.0 f.a.0 f.b.0 f.c.0

-- r is true where m clashes and x is its number plus one, and true only where some tetrahedron clashes
pub record Tries (zs : List ℤ) (ls : List ℕ) (f : Facet) (x : ℕ) (r : Bool) : Type 0 where
  pub found : (m : ℕ) → m < length ls / 4 → x ≡ m + 1 → at_facet (clashes zs ls f.e.0) f m ≡ true → r ≡ true
  pub some : r ≡ true → at_facet (clashing zs ls f.e.0) f ≡ true

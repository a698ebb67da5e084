-- What the readers answer: for the counts of a sound header the file's mesh, for 0 and 0 nothing. Assumes nothing.
use mathlib.Core.Path.{◌≡◌, refl, sym}
use mathlib.Core.List.{List}
use mathlib.Core.Bool.{Bool, true, false, cond, ◌&&◌}
use Prim.Native.Nat.{ℕ, ◌+◌, ◌*◌}
use native.Mathlib.Omega.{arith}
use lib.Dec.{ltb}
use lib.ListN.{length}
use borrow.Author.Tests.{le-leb, eq-eqb, le-ltb}
use Rattle.space.specs.Mesh.{point}
use Rattle.space.specs.declared.Vertex.{Vertex}
use Rattle.space.specs.declared.Tet.{Tet}
use Rattle.layout.specs.Layout.{decoded}
use Rattle.layout.specs.between.Framed.{Framed}
use Rattle.view.specs.View.{fills_file, tetrahedron, four, place_in, tetra_in, part_in}
use Rattle.std.specs.Prelude.{Some, None}

module _ {f : List ℕ} {n t : ℕ} (h : Framed f n t) where
  pub fits-framed : fills_file f n t ≡ true
  unfolding fills_file
  fits-framed = rw (le-leb n 512 h.few_vertices, le-leb t 2048 h.few_tets, eq-eqb (length f) (24 + 12 * n + 10 * t) (sym h.whole))

  pub place-framed : (v : Vertex) → place_in f n t v ≡ cond (ltb v.0 n) (Some (point (decoded f) v.0)) None
  unfolding place_in
  place-framed v = rw (fits-framed, h.vertex)

  pub tetra_framed : (j : Tet) → tetra_in f n t j ≡ cond (ltb j.0 t) (Some (four (tetrahedron (decoded f) j.0))) None
  unfolding tetra_in
  tetra_framed j = rw (fits-framed, h.vertex, h.tet)

  pub part-framed : (j : Tet) → part_in f n t j ≡ cond (ltb j.0 t) (Some (tetrahedron (decoded f) j.0).part) None
  unfolding part_in
  part-framed j = rw (fits-framed, h.vertex, h.tet)

-- no vertices and no tetrahedra: there is none to show
nowhere : {A : Type 0} (b : Bool) (x : ℕ) (y z : A) → cond (b && ltb x 0) y z ≡ z
nowhere true x y z = rw (le-ltb x 0 (omega arith))
nowhere false x y z = refl

module _ (f : List ℕ) where
  pub place-empty : (v : Vertex) → place_in f 0 0 v ≡ None
  unfolding place_in
  place-empty v = nowhere (fills_file f 0 0) v.0 _ _

  pub tetra_empty : (j : Tet) → tetra_in f 0 0 j ≡ None
  unfolding tetra_in
  tetra_empty j = nowhere (fills_file f 0 0) j.0 _ _

  pub part-empty : (j : Tet) → part_in f 0 0 j ≡ None
  unfolding part_in
  part-empty j = nowhere (fills_file f 0 0) j.0 _ _

-- What stands at each place of the lists that the file says, and of its mesh. Assumes nothing.
use mathlib.Core.Path.{◌≡◌, ◌∙◌, ap}
use mathlib.Core.List.{List}
use Prim.Native.Nat.{ℕ, ◌+◌, ◌*◌, ◌/◌, ◌%◌, ◌<◌}
use native.Mathlib.Omega.{arith}
use lib.ListN.{length, get_or}
use lib.IntN.{pos}
use Rattle.base.proofs.Loop.{get_or-up}
use Rattle.space.specs.Mesh.{Tetrahedron, point}
use Rattle.space.specs.Arrays.{point_at, tet_at}
use Rattle.layout.specs.Bytes.{u16_at, i32_at}
use Rattle.layout.specs.Layout.{vertex_part, tet_part, coords_in, labels_in, parts_in, mesh_in}
use Rattle.layout.proofs.Framed.{coords_long, labels-long}

pub coord_at : (q : List ℕ) (k i : ℕ) → i < k → get_or (coords_in q k) i (pos 0) ≡ i32_at q (4 * i)
unfolding coords_in
coord_at q k i h = get_or-up (λ i. i32_at q (4 * i)) (pos 0) k i h

pub label_at : (p : List ℕ) (k x : ℕ) → x < k → get_or (labels_in p k) x 0 ≡ u16_at p (10 * (x / 4) + 2 * (x % 4))
unfolding labels_in
label_at p k x h = get_or-up (λ x. u16_at p (10 * (x / 4) + 2 * (x % 4))) 0 k x h

pub part_at : (p : List ℕ) (k j : ℕ) → j < k → get_or (parts_in p k) j 0 ≡ u16_at p (10 * j + 8)
unfolding parts_in
part_at p k j h = get_or-up (λ j. u16_at p (10 * j + 8)) 0 k j h

-- coordinate k, of three, of vertex v
coord_of : (q : List ℕ) (n v k : ℕ) → v < n → k < 3 → get_or (coords_in q (3 * n)) (3 * v + k) (pos 0) ≡ i32_at q (12 * v + 4 * k)
coord_of q n v k h g =
    let a : 4 * (3 * v + k) ≡ 12 * v + 4 * k = omega arith in
    coord_at q (3 * n) (3 * v + k) (omega arith) ∙ ap (i32_at q) a

-- vertex k, of four, of tetrahedron j
label_of : (p : List ℕ) (t j k : ℕ) → j < t → k < 4 → get_or (labels_in p (4 * t)) (4 * j + k) 0 ≡ u16_at p (10 * j + 2 * k)
label_of p t j k h g =
    let a : 10 * ((4 * j + k) / 4) + 2 * ((4 * j + k) % 4) ≡ 10 * j + 2 * k = omega arith in
    label_at p (4 * t) (4 * j + k) (omega arith) ∙ ap (u16_at p) a

module _ (f : List ℕ) (n t : ℕ) where
  -- the point of vertex v is read at its place
  pub point-is : (v : ℕ) → v < n → point (mesh_in f n t) v ≡ record { x = i32_at (vertex_part f) (12 * v); y = i32_at (vertex_part f) (12 * v + 4); z = i32_at (vertex_part f) (12 * v + 8) }
  point-is v h =
      let q = vertex_part f in
      let zs = coords_in q (3 * n) in
      let a : 4 * (3 * v) ≡ 12 * v = omega arith in
      let x = coord_at q (3 * n) (3 * v) (omega arith) ∙ ap (i32_at q) a in
      get_or-up (point_at zs) _ (length zs / 3) v (omega (arith, coords_long q (3 * n)))
      ∙ (λ i. record { x = x i; y = coord_of q n v 1 h (omega arith) i; z = coord_of q n v 2 h (omega arith) i })

  -- tetrahedron j of the mesh is what the arrays say
  pub tet-is : (d : Tetrahedron) (j : ℕ) → j < t → get_or (mesh_in f n t).tets j d ≡ tet_at (labels_in (tet_part n f) (4 * t)) (parts_in (tet_part n f) t) j
  tet-is d j h =
      let p = tet_part n f in
      let ls = labels_in p (4 * t) in
      get_or-up (tet_at ls (parts_in p t)) d (length ls / 4) j (omega (arith, labels-long p (4 * t)))

-- vertices 0 to 3 of tetrahedron j are read at their places
module _ (p : List ℕ) (t j : ℕ) (h : j < t) where
  pub label0 : get_or (labels_in p (4 * t)) (4 * j) 0 ≡ u16_at p (10 * j)
  label0 =
      let a : 10 * (4 * j / 4) + 2 * (4 * j % 4) ≡ 10 * j = omega arith in
      label_at p (4 * t) (4 * j) (omega arith) ∙ ap (u16_at p) a

  pub label1 : get_or (labels_in p (4 * t)) (4 * j + 1) 0 ≡ u16_at p (10 * j + 2)
  label1 = label_of p t j 1 h (omega arith)

  pub label2 : get_or (labels_in p (4 * t)) (4 * j + 2) 0 ≡ u16_at p (10 * j + 4)
  label2 = label_of p t j 2 h (omega arith)

  pub label3 : get_or (labels_in p (4 * t)) (4 * j + 3) 0 ≡ u16_at p (10 * j + 6)
  label3 = label_of p t j 3 h (omega arith)

-- What the readers of the view read is the mesh that the file holds. Assumes nothing.
use mathlib.Core.Path.{◌≡◌, sym, ◌∙◌, ap}
use mathlib.Core.List.{List, []}
use mathlib.Core.Bool.{true, ◌&&◌}
use Prim.Native.Nat.{ℕ, ◌+◌, ◌*◌, ◌-◌, ◌≤◌, ◌<◌}
use lib.Dec.{leb, eqb}
use lib.ListN.{length, take, drop}
use borrow.Author.Tests.{leb-true, eqb-true}
use Rattle.base.proofs.Bools.{and_left, and_right}
use Rattle.base.proofs.Loop.{part-is}
use Rattle.space.specs.declared.Point.{Point}
use Rattle.space.specs.Mesh.{point}
use Rattle.layout.specs.Bytes.{u16_at}
use Rattle.layout.specs.Layout.{mesh_in, tet_part}
use Rattle.view.proofs.Says.{point-is, tet-is, label0, label1, label2, label3, part_at}
use Rattle.view.specs.View.{fills_file, tetrahedron, four}
use Rattle.view.specs.between.Reads.{point_read, tetra_read}
use Rattle.space.specs.declared.Vertex.{Vertex}

-- what counts that fit tell
pub record Fitted (f : List ℕ) (n t : ℕ) : Type 0 where
  pub few_vertices : n ≤ 512
  pub few_tets : t ≤ 2048
  pub whole : length f ≡ 24 + 12 * n + 10 * t

pub fits_say : (f : List ℕ) (n t : ℕ) → fills_file f n t ≡ true → Fitted f n t
unfolding fills_file
fits_say f n t e =
    let d = and_left (leb n 512 && leb t 2048) (eqb (length f) (24 + 12 * n + 10 * t)) e in
    record {
      few_vertices = leb-true _ _ (and_left (leb n 512) (leb t 2048) d);
      few_tets = leb-true _ _ (and_right (leb n 512) (leb t 2048) d);
      whole = eqb-true _ _ (and_right (leb n 512 && leb t 2048) (eqb (length f) (24 + 12 * n + 10 * t)) e);
    }

module _ (f : List ℕ) (n t : ℕ) where
  pub point-held : {r : Point} (v : ℕ) → v < n → r ≡ point_read (take (length f - 24) (drop 24 f)) v → r ≡ point (mesh_in f n t) v
  point-held v h e = e ∙ ap (λ l. point_read l v) (part-is 24 f) ∙ sym (point-is f n t v h)

  tetra_is : (j : ℕ) → j < t → tetra_read (tet_part n f) j ≡ four (tetrahedron (mesh_in f n t) j)
  tetra_is j h =
      let p = tet_part n f in
      rw (tet-is f n t (record { vertices = []; part = 0 }) j h, label0 p t j h, label1 p t j h, label2 p t j h, label3 p t j h)

  pub tetra_held : {r : List Vertex} (j : ℕ) → j < t → r ≡ tetra_read (take (length f - (24 + 12 * n)) (drop (24 + 12 * n) f)) j → r ≡ four (tetrahedron (mesh_in f n t) j)
  tetra_held j h e = e ∙ ap (λ l. tetra_read l j) (part-is (24 + 12 * n) f) ∙ tetra_is j h

  pub part_held : {r : ℕ} (j : ℕ) → j < t → r ≡ u16_at (take (length f - (24 + 12 * n)) (drop (24 + 12 * n) f)) (10 * j + 8) → r ≡ (tetrahedron (mesh_in f n t) j).part
  part_held j h e =
      e
      ∙ ap (λ l. u16_at l (10 * j + 8)) (part-is (24 + 12 * n) f)
      ∙ sym (ap (λ x. x.part) (tet-is f n t (record { vertices = []; part = 0 }) j h) ∙ part_at (tet_part n f) t j h)

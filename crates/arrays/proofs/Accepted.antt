-- What an accepted file gives. Assumes nothing.
use mathlib.Core.Path.{◌≡◌, refl}
use mathlib.Core.List.{List}
use Prim.Native.Nat.{ℕ, ◌*◌, ◌/◌}
use native.Mathlib.Omega.{arith}
use lib.ListN.{length}
use borrow.Author.Tests.{not-false}
use Rattle.base.proofs.Refusals.{passed}
use Rattle.space.specs.between.Working.{Close}
use Rattle.tets_around.specs.between.Index.{Labelled}
use Rattle.facets.proofs.Sound.{Sound, sound}
use Rattle.layout.specs.Layout.{vertices, tets, vertex_part, tet_part, coords_of, labels_of}
use Rattle.layout.specs.between.Framed.{Framed}
use Rattle.layout.proofs.Framed.{framed, coords_long, labels-long}
use Rattle.decoding.proofs.Parts.{near-close}
use Rattle.tets.proofs.Labelled.{labelled-of}
use Rattle.arrays.specs.Refusals.{refusals, refusal}

-- what a file that is not refused tells: its counts are the header's and fill it, every coordinate is in bounds,
-- every label is below n, no tetrahedron names a vertex twice, each box is above 0,
-- and each facet has at most two tetrahedra, their fourth vertices strictly on its two sides
pub record Given (f : List ℕ) : Type 0 where
  pub framed : Framed f (vertices f) (tets f)
  pub close : Close (coords_of f)
  pub labelled : Labelled (labels_of f) (vertices f)
  pub sound : Sound (coords_of f) (labels_of f)

pub accepted_gives : (f : List ℕ) → refusal f ≡ 0 → Given f
unfolding refusal
accepted_gives f e =
    let p = passed (refusals f) refl e in
    let h = framed f (vertices f) (tets f) (not-false _ p.0) (not-false _ p.1.0) (not-false _ p.1.1.0) refl refl in
    let q = p.1.1.1 in
    let a = coords_long (vertex_part f) (3 * vertices f) in
    let b = labels-long (tet_part (vertices f) f) (4 * tets f) in
    let l = labelled-of (length (coords_of f) / 3) (labels_of f) (omega (arith, b)) (omega (arith, b, h.few_tets)) q.1.0 q.1.1.0 in
    let k : length (coords_of f) / 3 ≡ vertices f = omega (arith, a) in
    record {
      framed = h;
      close = near-close (coords_of f) (not-false _ q.0);
      labelled = rw k at l;
      sound = sound (coords_of f) (labels_of f) l q.1.1.1.0 q.1.1.1.1.0 q.1.1.1.1.1.0;
    }

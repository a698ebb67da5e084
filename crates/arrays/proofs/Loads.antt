-- What `load` promises, from what it reads and from the two answers behind it. Assumes nothing.
use mathlib.Core.Path.{◌≡◌, sym, ◌∙◌}
use mathlib.Core.List.{List, ◌++◌}
use Prim.Native.Nat.{ℕ, ◌*◌, ◌/◌, ◌≤◌}
use native.Mathlib.Omega.{arith}
use lib.IntN.{ℤ}
use lib.ListN.{length}
use Rattle.std.specs.Prelude.{Result, Ok, Err, OnOk}
use Rattle.base.specs.Refusals.{first_of}
use Rattle.base.proofs.Refusals.{first_past, first-told}
use Rattle.space.specs.Arrays.{mesh_of}
use Rattle.tets_around.specs.between.Index.{Labelled, Indexed}
use Rattle.tets_around.specs.between.Arrays.{Arrays}
use Rattle.refusals.specs.declared.Refusal.{Refusal}
use Rattle.refusals.specs.Named.{number_of}
use Rattle.refusals.proofs.Named.{number_above}
use Rattle.layout.specs.Layout.{vertices, tets, vertex_part, tet_part, coords_of, labels_of, parts_of, decoded}
use Rattle.layout.proofs.Framed.{coords_long, labels-long, parts-long}
use Rattle.arrays.specs.Refusals.{of_numbers, of_tets, refusal, accepted}
use Rattle.arrays.specs.between.Headed.{headed}
use Rattle.arrays.proofs.Answers.{header-framed, refusal-rest}
use Rattle.arrays.proofs.Numbers.{numbers-passed, numbers-close, numbers-labelled}

-- what holds of either answer holds of Ok
pub on_either : {T E P : Type 0} (r : Result T E) → P → OnOk r P
on_either (Ok x) p = p
on_either (Err e) p = tt

module _ (f : List ℕ) {n t : ℕ} (e : headed f ≡ accepted n t) {zs : List ℤ} {ls ps : List ℕ} (a : zs ≡ coords_of f) (b : ls ≡ labels_of f) (d : ps ≡ parts_of f) where
  -- the arrays' lengths
  pub coords_long_by : length zs ≡ 3 * n
  coords_long_by = rw a (omega (arith, coords_long (vertex_part f) (3 * vertices f), (header-framed f e).vertex))

  pub coords_are : length zs / 3 ≡ n
  coords_are = rw a (omega (arith, coords_long (vertex_part f) (3 * vertices f), (header-framed f e).vertex))

  pub labels_are : length ls ≡ 4 * t
  labels_are = rw b (omega (arith, labels-long (tet_part (vertices f) f) (4 * tets f), (header-framed f e).tet))

  pub parts_are : length ps ≡ t
  parts_are = rw d (omega (arith, parts-long (tet_part (vertices f) f) (tets f), (header-framed f e).tet))

  pub labels-whole : length ls ≡ 4 * (length ls / 4)
  labels-whole = rw b (omega (arith, labels-long (tet_part (vertices f) f) (4 * tets f)))

  pub labels-few : length ls ≤ 8192
  labels-few = let h = header-framed f e in rw b (omega (arith, labels-long (tet_part (vertices f) f) (4 * tets f), h.tet, h.few_tets))

  labels-parted : length ps ≡ length ls / 4
  labels-parted = rw (b, d) (omega (arith, labels-long (tet_part (vertices f) f) (4 * tets f), parts-long (tet_part (vertices f) f) (tets f)))

  -- they are the file's
  pub are : mesh_of zs ls ps ≡ decoded f
  are = rw (a, b, d)

  tells : first_of (of_numbers zs ls ++ of_tets zs ls) ≡ refusal f
  tells = rw (a, b) (sym (refusal-rest f e))

  -- the labels can be indexed
  pub indexable : first_of (of_numbers zs ls) ≡ 0 → Labelled ls n
  indexable z = rw coords_are at (numbers-labelled zs ls z labels-whole labels-few)

  -- 4 to 6
  pub told_early : (r : Refusal) → number_of r ≡ first_of (of_numbers zs ls) → number_of r ≡ refusal f
  told_early r q = q ∙ sym (first-told (of_numbers zs ls) (of_tets zs ls) (omega (arith, number_above r, q))) ∙ tells

  -- 7 to 9, or none
  pub told-late : {k : ℕ} → first_of (of_numbers zs ls) ≡ 0 → k ≡ first_of (of_tets zs ls) → k ≡ refusal f
  told-late z q = q ∙ sym (first_past (of_numbers zs ls) (of_tets zs ls) (numbers-passed zs ls z)) ∙ tells

  pub arrays_of : {os es : List ℕ} → first_of (of_numbers zs ls) ≡ 0 → Indexed ls n os es → Arrays zs ls ps n os es
  arrays_of z i = record { close = numbers-close zs ls z; counted = coords_are; few = (header-framed f e).few_vertices; indexed = i; parted = labels-parted }

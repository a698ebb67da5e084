-- The file's answer, and its mesh in arrays. Assumes nothing.
use mathlib.Core.Path.{◌≡◌, refl, ◌∙◌, subst}
use mathlib.Core.List.{List, []}
use Prim.Native.Nat.{ℕ, ◌<◌, ◌≤◌}
use native.Mathlib.Omega.{arith}
use lib.ListN.{length}
use Rattle.base.proofs.Refusals.{Passed, passed}
use Rattle.space.specs.Mesh.{Mesh}
use Rattle.layout.specs.Layout.{vertices, coords_of, labels_of, parts_of, decoded}
use Rattle.arrays.specs.Refusals.{refusals, refusal}
use Rattle.arrays.proofs.Accepted.{accepted_gives}
use Rattle.neighbours.specs.Table.{table_of}
use Rattle.neighbours.proofs.Whole.{enough}
use Rattle.refusals.specs.declared.Refusal.{Refusal}
use Rattle.refusals.specs.Named.{number_of}
use Rattle.refusals.proofs.Named.{number_above}
use Rattle.records.specs.Marks.{Answer, barred_by}
use Rattle.portioning.specs.Portion.{Promised, Portioned}
use Rattle.portioning.proofs.Promised.{bars_file, promised_refused, promised_past}

module _ (f : List ℕ) where
  pub accepted-passed : refusal f ≡ 0 → Passed (refusals f)
  unfolding refusal
  accepted-passed e = passed (refusals f) refl e

  -- refusals 1 to 9
  pub refused-file : (k table room : List ℕ) {r : Refusal} → refusal f ≡ number_of r → Portioned f k table room (barred_by r 0) table room
  unfolding refusal
  refused-file k table room {r} e =
      promised_refused (refusals f) (decoded f) (vertices f) k table room r (bars_file (refusals f) (decoded f) (vertices f) (length table) (length room) (omega (arith, number_above r)) ∙ e) refl

  -- what is promised of the mesh that was read is promised of the file
  pub promised_file : {m : Mesh} {n : ℕ} {k table room table' room' : List ℕ} {a : Answer} → refusal f ≡ 0 → m ≡ decoded f → n ≡ vertices f → Promised [] m n k table room a table' room' → Portioned f k table room a table' room'
  promised_file {m} {n} {k} {table} {room} {table'} {room'} {a} z d q h =
      promised_past (refusals f) (decoded f) (vertices f) k table room (accepted-passed z)
      (subst (λ (v : ℕ). Promised [] (decoded f) v k table room a table' room') q (subst (λ (l : Mesh). Promised [] l n k table room a table' room') d h))

-- 25,089 entries suffice for the table of any accepted file
pub table_suffices : (f : List ℕ) → refusal f ≡ 0 → length (table_of (decoded f) (vertices f)) ≤ 25089
table_suffices f e =
    let g = accepted_gives f e in
    enough (coords_of f) (labels_of f) (parts_of f) (vertices f) g.framed.few_vertices g.labelled.few

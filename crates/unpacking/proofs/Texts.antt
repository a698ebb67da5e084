-- The text of lists from its three pieces; a text at the front of a room, and the answer that goes with it.
-- Assumes nothing.
use mathlib.Core.Path.{◌≡◌, refl, sym, ◌∙◌, ap}
use mathlib.Core.List.{List, [], ◌∷◌, ◌++◌}
use Prim.Native.Nat.{ℕ, ◌+◌, ◌*◌, ◌/◌, ◌≤◌, ◌<◌}
use native.Mathlib.Nat.{zero-add}
use native.Mathlib.Decide.{dec_lt}
use native.Mathlib.Omega.{arith}
use lib.IntN.{ℤ, pos}
use lib.ListN.{length, drop, get_or-eq_default}
use mir.Syntax.{w64}
use mir.Val.{to_z}
use Rattle.base.specs.Laid.{Laid}
use Rattle.base.proofs.Lay.{lay-front}
use Rattle.base.proofs.Signed.{to_z_pos}
use Rattle.tets_around.specs.between.Index.{Labelled}
use Rattle.layout.specs.Layout.{vertices, coords_of, labels_of, parts_of}
use Rattle.layout.specs.between.Framed.{Framed}
use Rattle.arrays.specs.Refusals.{refusals, refusal, accepted, checked}
use Rattle.std.specs.Prelude.{Ok, Err}
use Rattle.refusals.specs.declared.Refusal.{Refusal}
use Rattle.arrays.proofs.Accepted.{accepted_gives}
use Rattle.arrays.proofs.Answers.{accepted-says, refused_says, refusal_named}
use Rattle.packing.proofs.Ways.{unless_refused, unless_none}
use Rattle.lines.proofs.Numbers.{behind}
use Rattle.writing_lists.specs.Printed.{line_of, vertex_lines, tet_lines, text_of}
use Rattle.writing_lists.proofs.Lengths.{signed_length, line_widths}
use Rattle.unpacking.specs.Unpacked.{file_text, unpacked}
use Rattle.unpacking.specs.between.Sizes.{count_place, text_room, ThreeDigits, TextFits}

-- ---- the line of the counts, and what follows it

pub counts-most : (n t : ℕ) → length (line_of (to_z w64 n ∷ to_z w64 t ∷ [])) < count_place
counts-most n t =
    omega (arith, line_widths (to_z w64 n) (to_z w64 t ∷ []), signed_length (to_z w64 n), signed_length (to_z w64 t))

pub counts-kept : (n t : ℕ) → n < 9223372036854775808 → t < 9223372036854775808 → to_z w64 n ∷ to_z w64 t ∷ [] ≡ pos n ∷ pos t ∷ []
counts-kept n t h g = let a = to_z_pos w64 n h in let b = to_z_pos w64 t g in cc

module _ (cs : List ℤ) (ls ps : List ℕ) {a b r : ℕ} {zs : List ℤ} {old l m o : List ℕ} where
  pub text-laid : zs ≡ pos (length cs / 3) ∷ pos (length ps) ∷ []
      → a ≡ 0 + length (line_of zs) → Laid 0 (line_of zs) old l
      → b ≡ a + length (vertex_lines cs (length cs / 3)) → Laid a (vertex_lines cs (length cs / 3)) l m
      → r ≡ b + length (tet_lines ls ps (length ps)) → Laid b (tet_lines ls ps (length ps)) m o
      → (r ≡ length (text_of cs ls ps)) × Laid 0 (text_of cs ls ps) old o
  unfolding text_of
  text-laid e p q u v x y =
      let g = behind p q u v refl in
      let k = behind g.0 g.1 x y (ap (λ z. line_of z ++ vertex_lines cs (length cs / 3) ++ tet_lines ls ps (length ps)) (sym e)) in
      (k.0 ∙ zero-add _, k.1)

-- ---- a file

-- the text of the lists that were read is the file's
pub file-laid : (f : List ℕ) {cs : List ℤ} {ls ps : List ℕ} {r : ℕ} {old l : List ℕ} → cs ≡ coords_of f → ls ≡ labels_of f → ps ≡ parts_of f
    → (r ≡ length (text_of cs ls ps)) × Laid 0 (text_of cs ls ps) old l → (r ≡ length (file_text f)) × Laid 0 (file_text f) old l
unfolding file_text
file-laid f a b c d = rw (a, b, c) at d

pub framed-by : (f : List ℕ) {n t : ℕ} → checked f ≡ accepted n t → Framed f n t
framed-by f e =
    let s = accepted-says f e in
    let g = (accepted_gives f s.0).framed in
    rw (sym s.1.0, sym s.1.1) at g

-- every vertex number of an accepted file is below 512
few-of : (ls : List ℕ) (n : ℕ) → n ≤ 512 → Labelled ls n → ThreeDigits ls
few-of ls n h d = record { few = λ i. elim (dec_lt i (length ls)) [ yes l ↦ omega (arith, d.below i l) | no l ↦ omega (arith, get_or-eq_default ls 0 {n = i} (omega arith)) ] }

-- so a text of an accepted file has place in the room
pub file-fits : (f : List ℕ) {n t : ℕ} {cs : List ℤ} {ls ps : List ℕ} {room : ℕ} → checked f ≡ accepted n t → cs ≡ coords_of f → ls ≡ labels_of f → ps ≡ parts_of f
    → length cs ≡ 3 * n → length ls ≡ 4 * t → length ps ≡ t → text_room ≤ room → TextFits cs ls ps room
file-fits f {n} {t} e a b c x y z h =
    let s = accepted-says f e in
    let g = accepted_gives f s.0 in
    let w = g.framed in
    let d : ThreeDigits (labels_of f) = few-of (labels_of f) (vertices f) w.few_vertices g.labelled in
    let p = s.1.0 in
    let q = s.1.1 in
    let u = w.few_vertices in
    let v = w.few_tets in
    record { fours = omega arith; fits = omega arith; close = rw a g.close; few = rw b d }

-- ---- the answer

module _ (f : List ℕ) where
  pub whole_is : {n t k : ℕ} → checked f ≡ accepted n t → k ≡ length (file_text f) → Ok k ≡ unpacked f
  unfolding unpacked refusal
  whole_is e h = ap Ok h ∙ unless_none (refusals f) (length (file_text f)) (sym (accepted-says f e).0)

  pub refused-is : {r : Refusal} → checked f ≡ Err r → Err r ≡ unpacked f
  unfolding unpacked refusal
  refused-is e = unless_refused (refusals f) (length (file_text f)) (sym (refused_says f (refusal_named f) e))

pub front-laid : {xs old l : List ℕ} {k : ℕ} → k ≡ length xs → Laid 0 xs old l → l ≡ xs ++ drop k old
front-laid {xs} {old} e d = d.content ∙ lay-front xs old ∙ ap (λ i. xs ++ drop i old) (sym e)

-- The laws of `specs/Jobs.antt` hold, by those of files and those of texts. Assumes nothing.
use mathlib.Core.Path.{◌≡◌, sym, ◌∙◌, ap}
use mathlib.Core.List.{List, ◌++◌, append-nil}
use Prim.Native.Nat.{ℕ, ◌*◌, ◌≤◌}
use native.Mathlib.Omega.{arith}
use lib.IntN.{ℤ, pos}
use lib.ListN.{length, drop, replicate, length-replicate}
use lib.Seq.{drop-length}
use Rattle.layout.specs.Layout.{vertices, tets, vertex_part, tet_part, coords_of, labels_of, parts_of}
use Rattle.layout.proofs.Framed.{coords_long, labels-long, parts-long}
use Rattle.arrays.specs.Refusals.{refusals, refusal}
use Rattle.arrays.proofs.Accepted.{accepted_gives}
use Rattle.encoding.specs.File.{file_of}
use Rattle.packing.specs.Packed.{packed}
use Rattle.std.specs.Prelude.{Ok}
use Rattle.packing.proofs.Ways.{unless_none}
use Rattle.round_trips.specs.Inverse.{AllBelow, AllSigned}
use Rattle.round_trips.proofs.Laws.{inverse}
use Rattle.writing_lists.specs.Printed.{text_of}
use Rattle.unpacking.specs.Unpacked.{file_text, unpacked}
use Rattle.lists_undone.specs.Undone.{Typed}
use Rattle.lists_undone.specs.Kept.{lists_said}
use Rattle.lists_undone.proofs.Undoes.{texts}
use Rattle.jobs_undone.specs.Jobs.{PackedBack, UnpackedBack, JobsUndone}

text-whole : (f : List ℕ) → refusal f ≡ 0 → unpacked f ≡ Ok (length (file_text f))
unfolding unpacked refusal
text-whole f e = sym (unless_none (refusals f) (length (file_text f)) (sym e))

-- a list that fills a lent one of its length
filled : {A : Type 0} (xs old : List A) → length xs ≡ length old → xs ++ drop (length xs) old ≡ xs
filled xs old e = ap (λ k. xs ++ drop k old) e ∙ ap (λ l. xs ++ l) (drop-length old) ∙ append-nil xs

module _ (f : List ℕ) (h : AllBelow 256 f) (e : refusal f ≡ 0) where
  typed : Typed (coords_of f) (labels_of f) (parts_of f) (vertices f) (tets f)
  typed =
      let l = inverse.listed f h e in
      let g = (accepted_gives f e).framed in
      record {
        coordinates = coords_long (vertex_part f) (3 * vertices f);
        labels = labels-long (tet_part (vertices f) f) (4 * tets f);
        parts = parts-long (tet_part (vertices f) f) (tets f);
        few_vertices = omega (arith, g.few_vertices);
        few_tets = omega (arith, g.few_tets);
        words = l.words.word;
        numbers = l.numbers.below;
        part_numbers = l.parts.below;
      }

  pub packed-back : (room : ℕ) → length f ≤ room → PackedBack f room (lists_said (file_text f) (vertices f) (tets f))
  unfolding file_text
  packed-back room g =
      let y = typed in
      let n = vertices f in
      let t = tets f in
      let c = length-replicate (3 * n) (pos 0) in
      let l = length-replicate {A = ℕ} (4 * t) 0 in
      let p = length-replicate {A = ℕ} t 0 in
      let d = texts.undone (coords_of f) (replicate (3 * n) (pos 0)) (labels_of f) (replicate (4 * t) 0) (parts_of f) (replicate t 0) n t y
      (omega (arith, y.coordinates)) (omega (arith, y.labels)) (omega (arith, y.parts)) in
      let a = d.coordinates ∙ filled (coords_of f) _ (y.coordinates ∙ sym c) in
      let b = d.labels ∙ filled (labels_of f) _ (y.labels ∙ sym l) in
      let q = d.parts ∙ filled (parts_of f) _ (y.parts ∙ sym p) in
      record {
        text = text-whole f e;
        said = d.said;
        answer = rw (a, b, q) (inverse.again f room h e g);
        file = rw (a, b, q) (inverse.written f h e);
      }

module _ (cs : List ℤ) (ls ps : List ℕ) (room k : ℕ) (a : AllSigned cs) (b : AllBelow 65536 ls) (c : AllBelow 65536 ps) (e : packed cs ls ps room ≡ Ok k) where
  pub unpacked-back : UnpackedBack cs ls ps
  unfolding file_text
  unpacked-back =
      let w = inverse.kept cs ls ps room k a b c e in
      let s = w.says in
      let t : text_of (coords_of (file_of cs ls ps)) (labels_of (file_of cs ls ps)) (parts_of (file_of cs ls ps)) ≡ text_of cs ls ps = rw (s.coordinates, s.numbers, s.parts) in
      record { answer = text-whole (file_of cs ls ps) w.accepted ∙ ap (λ x. Ok (length x)) t; text = t }

pub jobs-undone : JobsUndone
jobs-undone = record { packs = λ f room h e g. packed-back f h e room g; unpacks = unpacked-back }

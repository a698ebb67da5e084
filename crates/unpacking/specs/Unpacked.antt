-- The text of a mesh file, that is of the lists which it says, and what is answered of a file that is to be unpacked.
-- What the room then holds is `room_after` that text (packing/specs/Packed.antt).
-- Assumes nothing.
use Rattle.std.specs.Prelude.{ℕ, List, length, Result}
use Rattle.layout.specs.Layout.{coords_of, labels_of, parts_of}
use Rattle.arrays.specs.Refusals.{refusals}
use Rattle.packing.specs.Packed.{written_unless}
use Rattle.refusals.specs.declared.Refusal.{Refusal}
use Rattle.writing_lists.specs.Printed.{text_of}

unfoldable pub file_text : List ℕ → List ℕ
file_text f = text_of (coords_of f) (labels_of f) (parts_of f)

-- the file's refusal, or how long its text is
unfoldable pub unpacked : List ℕ → Result ℕ Refusal
unpacked f = written_unless (refusals f) (length (file_text f))

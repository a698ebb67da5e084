-- What the jobs `pack` and `unpack` make of each other. f is a file's bytes; cs are coordinates, ls vertex numbers and
-- ps parts.
-- Assumes nothing.
use Rattle.std.specs.Prelude.{ℕ, ◌≤◌, ◌≡◌, List, ℤ, length, Ok}
use Rattle.layout.specs.Layout.{vertices, tets}
use Rattle.arrays.specs.Refusals.{refusal}
use Rattle.encoding.specs.File.{file_of}
use Rattle.packing.specs.Packed.{packed}
use Rattle.round_trips.specs.Inverse.{AllBelow, AllSigned}
use Rattle.writing_lists.specs.Printed.{text_of}
use Rattle.unpacking.specs.Unpacked.{file_text, unpacked}
use Rattle.reading_lists.specs.Reading.{Reading, lists, said_by}
use Rattle.lists_undone.specs.Kept.{lists_said}

-- the lists s that the text of the file says are packed into a room of so many bytes: the file comes back
pub record PackedBack (f : List ℕ) (room : ℕ) (s : Reading) : Type 0 where
  pub text : unpacked f ≡ Ok (length (file_text f))
  pub said : said_by s.reader ≡ lists (vertices f) (tets f)
  pub answer : packed s.coordinates s.labels s.parts room ≡ Ok (length f)
  pub file : file_of s.coordinates s.labels s.parts ≡ f

-- the file that lists make is unpacked: the text of the lists
pub record UnpackedBack (cs : List ℤ) (ls ps : List ℕ) : Type 0 where
  pub answer : unpacked (file_of cs ls ps) ≡ Ok (length (text_of cs ls ps))
  pub text : file_text (file_of cs ls ps) ≡ text_of cs ls ps

pub record JobsUndone : Type 0 where
  -- of every accepted file, wherever there is room for it
  pub packs : (f : List ℕ) (room : ℕ) → AllBelow 256 f → refusal f ≡ 0 → length f ≤ room
      → PackedBack f room (lists_said (file_text f) (vertices f) (tets f))
  -- of all lists that are packed
  pub unpacks : (cs : List ℤ) (ls ps : List ℕ) (room k : ℕ) → AllSigned cs → AllBelow 65536 ls → AllBelow 65536 ps
      → packed cs ls ps room ≡ Ok k → UnpackedBack cs ls ps

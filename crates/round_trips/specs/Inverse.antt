-- What writing and reading promise of each other. cs are coordinates, ls vertex numbers and ps parts.
-- Assumes nothing.
use Rattle.std.specs.Prelude.{ℕ, ◌/◌, ◌≤◌, ◌<◌, ◌≡◌, true, List, ℤ, pos, length, get_or, Result, Ok}
use Rattle.std.specs.Int.Signed.{mag}
use Rattle.layout.specs.Layout.{vertices, tets, coords_of, labels_of, parts_of}
use Rattle.arrays.specs.Refusals.{refusal}
use Rattle.encoding.specs.File.{file_of}
use Rattle.packing.specs.Packed.{lengths_fit, packed, room_after}
use Rattle.refusals.specs.declared.Refusal.{Refusal}

-- ---- what the type of a slice tells of its entries

-- of bytes b is 256, of 16-bit numbers 65,536
pub record AllBelow (b : ℕ) (xs : List ℕ) : Type 0 where
  pub below : (i : ℕ) → get_or xs i 0 < b

-- of 32 bits: from -2 ^ 31 to 2 ^ 31 - 1
pub record AllSigned (cs : List ℤ) : Type 0 where
  pub word : (i : ℕ) → mag (get_or cs i (pos 0)) < 2147483648

-- ---- lists and files

-- lists whose lengths fit and whose entries are of their types
pub record Listed (cs : List ℤ) (ls ps : List ℕ) : Type 0 where
  pub lengths : lengths_fit (length cs) (length ls) (length ps) ≡ true
  pub words : AllSigned cs
  pub numbers : AllBelow 65536 ls
  pub parts : AllBelow 65536 ps

-- reading the file f gives these lists
pub record Says (f : List ℕ) (cs : List ℤ) (ls ps : List ℕ) : Type 0 where
  pub vertex_count : vertices f ≡ length cs / 3
  pub tet_count : tets f ≡ length ps
  pub coordinates : coords_of f ≡ cs
  pub numbers : labels_of f ≡ ls
  pub parts : parts_of f ≡ ps

-- what the answer `Ok k` tells of lists and a room of so many bytes
pub record WrittenWhole (cs : List ℤ) (ls ps : List ℕ) (room k : ℕ) : Type 0 where
  pub size : k ≡ length (file_of cs ls ps)
  pub fits : k ≤ room
  pub accepted : refusal (file_of cs ls ps) ≡ 0
  pub says : Says (file_of cs ls ps) cs ls ps

-- what a call of `write` promises: its answer, and what the room holds afterwards
pub record Packs (cs : List ℤ) (ls ps room : List ℕ) (a : Result ℕ Refusal) (room' : List ℕ) : Type 0 where
  pub answered : a ≡ packed cs ls ps (length room)
  pub stored : room' ≡ room_after (file_of cs ls ps) a room

-- ---- the laws

pub record Inverse : Type 0 where
  -- reading what lists make gives the lists, as long as the header can say the length
  pub read : (cs : List ℤ) (ls ps : List ℕ) → Listed cs ls ps → length (file_of cs ls ps) < 4294967296 → Says (file_of cs ls ps) cs ls ps
  -- writing what was read from an accepted file gives that file, byte for byte
  pub written : (f : List ℕ) → AllBelow 256 f → refusal f ≡ 0 → file_of (coords_of f) (labels_of f) (parts_of f) ≡ f
  -- what an accepted file says are such lists
  pub listed : (f : List ℕ) → AllBelow 256 f → refusal f ≡ 0 → Listed (coords_of f) (labels_of f) (parts_of f)
  -- no other accepted file says the same lists
  pub only : (f g : List ℕ) → AllBelow 256 f → AllBelow 256 g → refusal f ≡ 0 → refusal g ≡ 0
      → coords_of f ≡ coords_of g → labels_of f ≡ labels_of g → parts_of f ≡ parts_of g → f ≡ g
  -- a file that was written holds what was given, and its length is told
  pub kept : (cs : List ℤ) (ls ps : List ℕ) (room k : ℕ) → AllSigned cs → AllBelow 65536 ls → AllBelow 65536 ps
      → packed cs ls ps room ≡ Ok k → WrittenWhole cs ls ps room k
  -- what an accepted file says is written again wherever there is room for the file
  pub again : (f : List ℕ) (room : ℕ) → AllBelow 256 f → refusal f ≡ 0 → length f ≤ room
      → packed (coords_of f) (labels_of f) (parts_of f) room ≡ Ok (length f)
  -- lists make no file with a wrong layout, so that 3 is never answered
  pub framed : (cs : List ℤ) (ls ps : List ℕ) → refusal (file_of cs ls ps) ≡ 3 → ⊥
  -- what lists make are bytes
  pub bytes : (cs : List ℤ) (ls ps : List ℕ) → AllBelow 256 (file_of cs ls ps)
  -- two outcomes that a call permits are one
  pub one : (cs : List ℤ) (ls ps room : List ℕ) (a b : Result ℕ Refusal) (r s : List ℕ) → Packs cs ls ps room a r → Packs cs ls ps room b s → (a ≡ b) × (r ≡ s)

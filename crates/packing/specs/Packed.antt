-- What is answered to lists that are to be packed into a room, and what the room holds afterwards. cs are the
-- coordinates, ls the vertex numbers and ps the parts.
-- Assumes nothing.
use Rattle.std.specs.Prelude.{ℕ, ◌/◌, ◌%◌, Bool, not, ◌&&◌, List, [], ◌∷◌, ◌++◌, eqb, ltb, ℤ, length, drop, Result, Ok, Err}
use Rattle.base.specs.Refusals.{Refusal, refuse, first_of}
use Rattle.refusals.specs.declared.Refusal.{Refusal as Refused}
use Rattle.refusals.specs.Named.{unless, number_in}
use Rattle.arrays.specs.Refusals.{refusals}
use Rattle.encoding.specs.File.{file_of}

-- ---- the refusals, in their order

-- of a file that is to go into a room of so many bytes: its own, and then 15
abbrev pub room_refusals : List ℕ → ℕ → List Refusal
room_refusals f room = refusals f ++ (refuse 15 (ltb room (length f)) ∷ [])

-- not 14: coordinates in threes, vertex numbers in fours, a part for each four
unfoldable pub lengths_fit : ℕ → ℕ → ℕ → Bool
lengths_fit c l p = eqb (c % 3) 0 && eqb (l % 4) 0 && eqb p (l / 4)

-- of lists: 14, and then those of the file that they make
abbrev pub list_refusals : List ℤ → List ℕ → List ℕ → ℕ → List Refusal
list_refusals cs ls ps room =
    refuse 14 (not (lengths_fit (length cs) (length ls) (length ps))) ∷ room_refusals (file_of cs ls ps) room

-- ---- the answer

-- the first of these refusals that applies, or else that k bytes were written
unfoldable pub written_unless : List Refusal → ℕ → Result ℕ Refused
written_unless rs k = unless (first_of rs) k

unfoldable pub packed : List ℤ → List ℕ → List ℕ → ℕ → Result ℕ Refused
packed cs ls ps room = written_unless (list_refusals cs ls ps room) (length (file_of cs ls ps))

-- by its number: 0 where the file was written
abbrev pub written_number : Result ℕ Refused → ℕ
written_number a = number_in a

-- ---- the room afterwards: the file f and then what was there, or all that was there

abbrev pub room_after : List ℕ → Result ℕ Refused → List ℕ → List ℕ
room_after f (Ok k) old = f ++ drop k old
room_after f (Err r) old = old

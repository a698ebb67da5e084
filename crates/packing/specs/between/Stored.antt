-- The answer of a file that stands already, for a room of so many bytes.
-- Assumes nothing.
use Rattle.std.specs.Prelude.{ℕ, List, length, Result}
use Rattle.packing.specs.Packed.{room_refusals, written_unless}
use Rattle.refusals.specs.declared.Refusal.{Refusal}

abbrev pub stored_in : List ℕ → ℕ → Result ℕ Refusal
stored_in f room = written_unless (room_refusals f room) (length f)

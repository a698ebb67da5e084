-- What is answered of a header alone.
-- Assumes nothing.
use Rattle.std.specs.Prelude.{ℕ, List, Result}
use Rattle.base.specs.Refusals.{first_of}
use Rattle.refusals.specs.declared.Refusal.{Refusal}
use Rattle.arrays.specs.declared.Counts.{Counts}
use Rattle.arrays.specs.Refusals.{of_header, answered}

-- of the header alone
abbrev pub headed : List ℕ → Result Counts Refusal
headed f = answered (first_of (of_header f)) f

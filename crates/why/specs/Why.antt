-- What is answered to the question why a tuple is not a cell of a file with bytes f, for a kind and eight numbers vs.
-- Assumes nothing.
use Rattle.std.specs.Prelude.{ℕ, not, List, [], ◌∷◌, ◌++◌, Result}
use Rattle.base.specs.Refusals.{Refusal, refuse, first_of}
use Rattle.refusals.specs.declared.Refusal.{Refusal as Refused}
use Rattle.refusals.specs.Named.{unless}
use Rattle.layout.specs.Layout.{decoded}
use Rattle.arrays.specs.Refusals.{refusals}
use Rattle.templates.specs.Tables.{is_kind}
use Rattle.reasons.specs.declared.Finding.{Finding}
use Rattle.reasons.specs.Reason.{finding_of}

-- ---- the refusals, in their order: the file's 1 to 9, and then 16 for another kind

abbrev pub why_refusals : List ℕ → ℕ → List Refusal
why_refusals f k = refusals f ++ (refuse 16 (not (is_kind k)) ∷ [])

-- ---- the answer: the first of these that applies, or else what is found

unfoldable pub found_unless : List Refusal → Finding → Result Finding Refused
found_unless rs w = unless (first_of rs) w

unfoldable pub explained : List ℕ → ℕ → List ℕ → Result Finding Refused
explained f k vs = found_unless (why_refusals f k) (finding_of (decoded f) k vs)

-- The rows on why tuples are not cells hold: from the bytes their answers are computed.
-- Assumes nothing.
use mathlib.Core.Path.{refl}
use Rattle.least.specs.Least.{first_is_less, rises_at, is_least}
use Rattle.turning.specs.Form.{least_by}
use Rattle.cells.specs.Cells.{first_failing}
use Rattle.portions.specs.Portions.{before}
use Rattle.reasons.specs.Reason.{is_new, is_there, is_closed, across, offending, least_turn, found_cell, found_open, finding_at, finding, finding_of}
use Rattle.why.specs.Why.{found_unless, explained}
use Rattle.worked.specs.Questions.{ask, RowsHold}
use Rattle.worked.specs.Asked.{asked}
use Rattle.worked.proofs.Opened.{reading, weighing}

pub asked_hold : RowsHold asked
unfolding ask reading weighing first_failing first_is_less rises_at is_least least_by before is_new is_there is_closed across offending least_turn found_cell found_open finding_at finding finding_of found_unless explained
asked_hold = refl

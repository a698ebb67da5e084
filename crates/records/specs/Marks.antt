-- Answers as the code tells them.
-- Assumes nothing.
use Rattle.std.specs.Prelude.{ℕ, Bool, Result, Ok, Err}
use Rattle.refusals.specs.declared.Refusal.{Refusal}
use Rattle.refusals.specs.Named.{number_of}
use Rattle.portions.specs.Portions.{refused, given}
use Rattle.portions.specs.Portions as portions
use Rattle.record.specs.declared.Mark.{Mark}
use Rattle.record.specs.Marks.{mark_of}
use Rattle.records.specs.declared.Given.{Given}
use Rattle.records.specs.declared.Refused.{Refused}

-- what was given, or the refusal and what was written before it
abbrev pub Answer : Type 0
Answer = Result Given Refused

abbrev pub gave : ℕ → Bool → Mark → Answer
gave n none k = Ok (record { count = n; none_remain = none; mark = k })

abbrev pub barred_by : Refusal → ℕ → Answer
barred_by r n = Err (record { refusal = r; written = n })

-- the answer by its number and values, as a portion has it
abbrev pub says : Answer → portions.Answer
says (Err x) = refused (number_of x.refusal)
says (Ok g) = given g.count g.none_remain (mark_of g.mark)

-- the answer's number alone: 0, or the refusal's
abbrev pub answer_number : Answer → ℕ
answer_number (Err x) = number_of x.refusal
answer_number (Ok g) = 0

-- how many records are written
abbrev pub wrote : Answer → ℕ
wrote (Err x) = x.written
wrote (Ok g) = g.count

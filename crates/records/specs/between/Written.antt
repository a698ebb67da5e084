-- What the loop that writes records promises.
-- Assumes nothing.
use Rattle.std.specs.Prelude.{ℕ, ◌*◌, ◌/◌, ◌≡◌, Bool, true, false, List, length}
use Rattle.space.specs.Mesh.{Mesh}
use Rattle.cells.specs.Full.{full_list}
use Rattle.portions.specs.Portions.{portion}
use Rattle.portions.specs.Portions as portions
use Rattle.portions.specs.Run.{Outcome}
use Rattle.portions.specs.between.Steps.{Come}
use Rattle.record.specs.declared.Mark.{Mark}
use Rattle.record.specs.Marks.{mark_of}
use Rattle.rule.specs.Rule.{tet_rule}
use Rattle.refusals.specs.declared.Refusal.TheVariants.{CellTooLong}
use Rattle.records.specs.declared.Stopped.{Stopped}
use Rattle.records.specs.declared.Stopped.TheVariants.{Full, Ended, Long}
use Rattle.records.specs.Marks.{Answer, gave, barred_by, says, wrote}

-- what a portion of the cells of a mesh promises, from the mark k on in this room:
-- the answer and what it leaves there, and how many records that is
pub record Written (m : Mesh) (k room : List ℕ) (a : Answer) (left : List ℕ) : Type 0 where
  pub outcome : Outcome tet_rule (full_list m) k room (says a) left
  pub counted : length (portion tet_rule (full_list m) k (length room)).written ≡ tet_rule.size * wrote a

-- the answer after i records: with the mark k where a cell is left, and else with the end
pub record AnswersFull (i : ℕ) (left : Bool) (k : Mark) (a : Answer) : Type 0 where
  pub mark : Mark
  pub on : left ≡ true → a ≡ gave i false k
  pub ends : left ≡ false → (a ≡ gave i true mark) × (mark_of mark ≡ tet_rule.end)

-- where the loop stops: at a full room it has come to a mark, and else the answer is known
abbrev pub StopsAt : Mesh → List ℕ → List ℕ → Stopped → List ℕ → Type 0
StopsAt m k room (Full i j) left = Come tet_rule (full_list m) k room (mark_of j) i left × (i ≡ length room / tet_rule.size)
StopsAt m k room (Ended i) left = (e : Mark) → mark_of e ≡ tet_rule.end → Written m k room (gave i true e) left
StopsAt m k room (Long i) left = Written m k room (barred_by CellTooLong i) left

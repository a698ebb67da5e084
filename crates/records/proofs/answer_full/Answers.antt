-- `records::answer_full` meets its contract. Assumes nothing.
use mathlib.Core.Path.{refl, sym, ◌∙◌}
use mathlib.Core.Bool.{true≢false}
use Rattle.records.proofs.answer_full.Goals as goal

pub returns-then-left : goal.returns-then-left
returns-then-left c = record { mark = c.args.mark; on = λ y. refl; ends = λ n. absurd (true≢false (sym c.if-left.true ∙ n)) }

pub returns-else-left : goal.returns-else-left
returns-else-left c = record { mark = c.end_mark.result; on = λ y. absurd (true≢false (sym y ∙ c.if-left.false)); ends = λ n. (refl, c.end_mark.ensures) }

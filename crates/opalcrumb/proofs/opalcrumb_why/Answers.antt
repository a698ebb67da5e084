-- `opalcrumb::opalcrumb_why` meets its contract. Assumes nothing.
use mathlib.Core.Path.{sym, ap, ◌∙◌}
use Rattle.reasons.specs.Numbers.{finding_number, entries_left}
use Rattle.opalcrumb.proofs.opalcrumb_why.Goals as goal

pub returns-in-Ok : goal.returns-in-Ok
returns-in-Ok c = let e = c.in-Ok.ensures in let h = c.hand_out.ensures in
    record { number = h.number ∙ ap finding_number e; answer = h.answer ∙ ap (λ w. entries_left w c.args.answer.now) e }

pub returns-in-Err : goal.returns-in-Err
returns-in-Err c = let e = c.in-Err.ensures in let h = c.hand_out-in-Err.ensures in
    record { number = h.number ∙ c.from.ensures ∙ ap finding_number e; answer = h.answer ∙ ap (λ w. entries_left w c.args.answer.now) e }

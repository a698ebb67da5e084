-- `findings::hand_out` meets its contract. Assumes nothing.
use mathlib.Core.Path.{sym, ap, ◌∙◌}
use Rattle.findings.specs.between.Numbers.{number_behind, entries_behind}
use Rattle.findings.proofs.hand_out.Goals as goal

pub returns-in-Ok : goal.returns-in-Ok
returns-in-Ok c = let e = sym c.in-Ok.is in
    record { number = ap number_behind e; answer = c.put_entries.ensures ∙ ap (λ w. entries_behind w c.args.answer.now) e }

pub returns-in-Err : goal.returns-in-Err
returns-in-Err c = let e = sym c.in-Err.is in
    record { number = ap number_behind e; answer = ap (λ w. entries_behind w c.args.answer.now) e }

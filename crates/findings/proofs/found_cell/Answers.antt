-- `findings::found_cell` meets its contract. Assumes nothing.
use mathlib.Core.Path.{sym, ◌∙◌, ap}
use Rattle.reasons.specs.Reason.{cell_by, turned_by}
use Rattle.findings.specs.between.Numbers.{form_numbers}
use Rattle.findings.proofs.Found.{told-cell}
use Rattle.findings.proofs.found_cell.Goals as goal

pub returns-then-is_least : goal.returns-then-is_least
returns-then-is_least c = let x = c.numbers-form.ensures ∙ ap form_numbers c.least_form.ensures in
    let l = sym c.is_least.ensures ∙ c.if-is_least.true in
    c.cell.ensures ∙ ap cell_by x ∙ (rw l at (told-cell c.args.kind c.args.tuple.now c.requires.0 c.requires.1))

pub returns : goal.returns
returns c = let x = c.numbers-form.ensures ∙ ap form_numbers c.least_form.ensures in
    let l = sym c.is_least.ensures ∙ c.if-is_least.false in
    c.turned.ensures ∙ ap turned_by x ∙ (rw l at (told-cell c.args.kind c.args.tuple.now c.requires.0 c.requires.1))

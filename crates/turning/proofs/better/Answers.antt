-- `turning::better` meets its contract. Assumes nothing.
use mathlib.Core.Path.{sym, ◌∙◌}
use Rattle.turning.proofs.better.Goals as goal

pub returns-then-all_rise : goal.returns-then-all_rise
returns-then-all_rise c = rw (sym c.all_rise.ensures ∙ c.if-all_rise.true)

pub returns-else-all_rise : goal.returns-else-all_rise
returns-else-all_rise c = rw (sym c.all_rise.ensures ∙ c.if-all_rise.false)

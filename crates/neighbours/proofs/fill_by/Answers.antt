-- `fill_by` meets its contract: what the two rooms hold is the table. Assumes nothing.
use mathlib.Core.Path.{◌∙◌, ap}
use mathlib.Core.Bool.{cond}
use lib.ListN.{length}
use Rattle.rooms.specs.between.Rooms.{filled_by, laid_by}
use Rattle.neighbours.proofs.Whole.{table-grown, rows_short}
use Rattle.neighbours.proofs.fill_by.Goals as goal

pub put_rows-e-requires : goal.put_rows-e-requires
put_rows-e-requires c = ((c.requires.n_bound.0, c.requires.n_in_bounds.0), (c.requires.n_in_bounds.1, rows_short c.args.labels.now c.args.n c.requires.n_bound.0 c.requires.n_bound.1.1 c.join_all.ensures c.requires.n_bound.1.0.few))

pub returns : goal.returns
returns c = let p = c.put_rows-e.ensures in let e = table-grown c.args.labels.now c.args.n c.requires.n_bound.0 c.requires.n_bound.1.1 c.join_all.ensures p.offsets p.entries in
    let a = c.args in record { answer = c.put_if.ensures.answer ∙ ap (λ xs. filled_by xs (length a.table.now)) e; content = c.put_if.ensures.content ∙ ap (λ xs. cond a.wanted (laid_by xs a.table.now) a.table.now) e }

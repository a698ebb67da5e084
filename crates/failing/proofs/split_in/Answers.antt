-- `failing::split_in` meets its contract. Assumes nothing.
use Rattle.std.proofs.Common.{rules, ◌∙◌, sym, ◌/◌, length}
use Rattle.base.specs.Lists.{up_to}
use Rattle.space.specs.Arrays.{row4}
use Rattle.cells.specs.Cells.{splits}
use Rattle.cells.specs.between.Rows.{facet_in}
use Rattle.reasons.proofs.First.{fail_map}
use Rattle.failing.proofs.split_in.Goals as goal

pub returns : goal.returns
returns c =
    let a = c.args in
    let q = splits (facet_in a.ix.now.labels.now a.c.now) in
    c.first_fail.ensures (λ i. q (row4 a.rows.now i)) (λ i b low said. search rules) ∙ sym (fail_map q (row4 a.rows.now) (up_to (length a.rows.now / 4)))

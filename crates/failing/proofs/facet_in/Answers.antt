-- `failing::facet_in` meets its contract. Assumes nothing.
use Rattle.std.proofs.Common.{rules, ◌∙◌, sym, ◌/◌, length}
use Rattle.base.specs.Lists.{up_to}
use Rattle.cells.specs.between.Rows.{row3, facet_in}
use Rattle.reasons.proofs.First.{fail_map}
use Rattle.failing.proofs.facet_in.Goals as goal

pub returns : goal.returns
returns c =
    let a = c.args in
    let q = facet_in a.ix.now.labels.now a.c.now in
    c.first_fail.ensures (λ i. q (row3 a.rows.now i)) (λ i b low said. search rules) ∙ sym (fail_map q (row3 a.rows.now) (up_to (length a.rows.now / 3)))

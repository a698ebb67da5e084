-- `open_faces::first_not_once` meets its contract. Assumes nothing.
use Rattle.std.proofs.Common.{rules, ◌∙◌, sym, ◌/◌, length, ap, nat_eq}
use Rattle.base.specs.Lists.{up_to}
use Rattle.cells.specs.Cells.{once, one}
use Rattle.cells.specs.between.Rows.{row3}
use Rattle.reasons.proofs.First.{fail_map}
use Rattle.open_faces.specs.between.Counts.{sides_in}
use Rattle.open_faces.proofs.first_not_once.Goals as goal

pub returns : goal.returns
unfolding one
returns c =
    let a = c.args in
    let q = once (sides_in a.labels.now a.quads.now a.c.now a.x.now) in
    c.first_fail.ensures (λ i. q (row3 a.rows.now i)) (λ i b low said. search rules) ∙ sym (fail_map q (row3 a.rows.now) (up_to (length a.rows.now / 3)))

-- `open_faces::first_not_halved` meets its contract. Assumes nothing.
use Rattle.std.proofs.Common.{rules, ◌∙◌, sym, ◌/◌, length}
use Rattle.base.specs.Lists.{up_to}
use Rattle.space.specs.Arrays.{row4}
use Rattle.reasons.specs.Reason.{halves}
use Rattle.reasons.proofs.First.{fail_map}
use Rattle.open_faces.specs.between.Counts.{sides_in}
use Rattle.open_faces.proofs.first_not_halved.Goals as goal

pub returns : goal.returns
returns c =
    let a = c.args in
    let q = halves (sides_in a.labels.now a.quads.now a.c.now a.c.now) in
    c.first_fail.ensures (λ i. q (row4 a.quads.now i)) (λ i b low said. search rules) ∙ sym (fail_map q (row4 a.quads.now) (up_to (length a.quads.now / 4)))

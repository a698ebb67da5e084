-- `failing::box_in` meets its contract. Assumes nothing.
use Rattle.std.proofs.Common.{rules, ◌∙◌, sym, ◌/◌, length}
use Rattle.base.specs.Lists.{up_to}
use Rattle.std.specs.Prelude.{List, ℕ, Bool}
use Rattle.space.specs.Box.{is_above0}
use Rattle.space.specs.Arrays.{row4}
use Rattle.templates.specs.Tables.{at}
use Rattle.cells.specs.Cells.{box_of}
use Rattle.cells.specs.between.Rows.{points_of}
use Rattle.reasons.proofs.First.{fail_map}
use Rattle.failing.proofs.box_in.Goals as goal

pub returns : goal.returns
returns c =
    let a = c.args in
    let q = (let p : List ℕ → Bool = λ ks. is_above0 (box_of (points_of a.coords.now) (at a.c.now ks)) in p) in
    c.first_fail.ensures (λ i. q (row4 a.rows.now i)) (λ i b low said. search rules) ∙ sym (fail_map q (row4 a.rows.now) (up_to (length a.rows.now / 4)))

-- `failing::first_corner` meets its contract. Assumes nothing.
use mathlib.Core.Path.{◌∙◌, ap₂}
use lib.ListN.{take, length-take}
use lib.Seq.{length-take-le}
use native.Mathlib.Omega.{arith}
use Rattle.templates.specs.Tables.{template_of, tuple_of}
use Rattle.reasons.specs.First.{first_fail}
use Rattle.failing.proofs.Short.{short, fits}
use Rattle.base.specs.Lists.{up_to}
use Rattle.reasons.specs.Reason.{is_new}
use Rattle.failing.proofs.first_corner.Goals as goal

pub slice_bounds-corner_in-end : goal.slice_bounds-corner_in-end
slice_bounds-corner_in-end c = simp length-take (omega arith)

pub returns : goal.returns
returns c = let a = c.args in let w = c.tables_of-tables.ensures in
    c.corner_in.ensures ∙ ap₂ (λ k l. first_fail (is_new a.n (take k a.tuple.now)) (up_to l)) w.tables.corners
    (length-take-le _ a.tuple.now (omega (arith, c.tables_of-tables.result.few, c.requires)) ∙ w.tables.corners)

pub overflow_cast-result : goal.overflow_cast-result
overflow_cast-result c = let a = c.args in let h = fits (is_new a.n (tuple_of a.kind a.tuple.now)) (up_to (template_of a.kind).corners) (returns c) (short a.kind).corners in
    omega arith

-- `failing::first_box` meets its contract. Assumes nothing.
use mathlib.Core.Path.{◌∙◌, ap₂}
use lib.ListN.{take, length-take}
use native.Mathlib.Omega.{arith}
use Rattle.templates.specs.Tables.{template_of, tuple_of, at}
use Rattle.reasons.specs.First.{first_fail}
use Rattle.failing.proofs.Short.{short, fits}
use Rattle.space.specs.Box.{is_above0}
use Rattle.cells.specs.Cells.{box_of}
use Rattle.cells.specs.between.Rows.{points_of}
use Rattle.failing.proofs.first_box.Goals as goal

pub slice_bounds-box_in-end : goal.slice_bounds-box_in-end
slice_bounds-box_in-end c = simp length-take (omega arith)

pub returns : goal.returns
returns c = let a = c.args in let w = c.tables_of-tables.ensures in
    c.box_in.ensures ∙ ap₂ (λ k rows. first_fail (λ ks. is_above0 (box_of (points_of a.coords.now) (at (take k a.tuple.now) ks))) rows) w.tables.corners w.tables.triples

pub overflow_cast-result : goal.overflow_cast-result
overflow_cast-result c = let a = c.args in let h = fits (λ ks. is_above0 (box_of (points_of a.coords.now) (at (tuple_of a.kind a.tuple.now) ks))) (template_of a.kind).triples (returns c) (short a.kind).triples in
    omega arith

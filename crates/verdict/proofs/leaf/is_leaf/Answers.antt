-- `verdict::leaf::is_leaf` meets its contract. Assumes nothing.
use mathlib.Core.Path.{◌≡◌, ◌∙◌, ap}
use lib.ListN.{take}
use Rattle.base.proofs.Bools.{and-fails, and-passes}
use Rattle.space.specs.Arrays.{mesh_of}
use Rattle.templates.specs.Tables.{template_of, at}
use Rattle.least.specs.Least.{is_least}
use Rattle.order.proofs.Fronts.{letters-front}
use Rattle.cells.specs.Cells.{is_cell, numbers_of}
use Rattle.rule.specs.between.Leaf.{is_leaf, cell_at}
use Rattle.verdict.proofs.Solid.{told_as}
use Rattle.std.proofs.lemmas.Bool.{not_from_false, not_from_true}
use Rattle.verdict.proofs.leaf.is_leaf.Goals as goal

pub returns-then-not-is_least : goal.returns-then-not-is_least
unfolding is_leaf
returns-then-not-is_least c = let a = c.args in let t = template_of a.kind in
    let l : take t.corners c.letters-c.result ≡ at a.s t.places = ap (take t.corners) c.letters-c.ensures ∙ letters-front a.kind a.s in
    record { yes_value = and-fails (c.is_least.ensures ∙ ap (is_least t) l) (not_from_false _ c.if-not-is_least.true) _; numbered = tt }

pub returns : goal.returns
unfolding is_leaf cell_at
returns c = let a = c.args in let m = mesh_of a.mesh.now.coords.now a.mesh.now.index.labels.now a.mesh.now.parts.now in
    let t = template_of a.kind in
    let l : take t.corners c.letters-c.result ≡ at a.s t.places = ap (take t.corners) c.letters-c.ensures ∙ letters-front a.kind a.s in record { yes_value = and-passes (c.is_least.ensures ∙ ap (is_least t) l) (not_from_true _ c.if-not-is_least.false) (c.is_cell.ensures.is ∙ ap (is_cell m t) l); numbered = told_as _ (ap (numbers_of m t) l) c.is_cell.ensures.tets }

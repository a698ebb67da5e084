-- `verdict::rows::bounds_of` meets its contract. Assumes nothing.
use mathlib.Core.Path.{◌∙◌, sym}
use Rattle.base.specs.Lists.{keep, spread}
use Rattle.templates.proofs.Numbered.{counts-hexahedron, counts-prism, counts-pyramid}
use Rattle.cells.specs.Cells.{inside, corner3}
use Rattle.verdict.specs.between.FlatTables.{flat_tables, standing, bounds_of}
use Rattle.verdict.proofs.OfKind.{bounded}
use Rattle.verdict.proofs.rows.bounds_of.Goals as goal

pub returns-in-Hexahedron : goal.returns-in-Hexahedron
unfolding bounds_of standing flat_tables spread inside keep corner3
returns-in-Hexahedron c = let k = c.args.kind in let whole = bounded k (sym (rw (counts-hexahedron k (sym c.in-Hexahedron.is ∙ c.from.ensures)))) in record { value = whole.0; bounds_rise = whole.1 }

pub returns-in-Prism : goal.returns-in-Prism
unfolding bounds_of standing flat_tables spread inside keep corner3
returns-in-Prism c = let k = c.args.kind in let at = counts-prism k (sym c.in-Prism.is ∙ c.from.ensures) in
    let whole = bounded k (sym (rw (at.0, at.1))) in record { value = whole.0; bounds_rise = whole.1 }

pub returns-in-Pyramid : goal.returns-in-Pyramid
unfolding bounds_of standing flat_tables spread inside keep corner3
returns-in-Pyramid c = let k = c.args.kind in let at = counts-pyramid k (sym c.in-Pyramid.is ∙ c.from.ensures) in
    let whole = bounded k (sym (rw (at.0, at.1))) in record { value = whole.0; bounds_rise = whole.1 }

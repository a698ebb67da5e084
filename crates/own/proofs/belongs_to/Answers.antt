-- `own::belongs_to` meets its contract. Assumes nothing.
use mathlib.Core.Path.{◌∙◌, ap}
use mathlib.Core.Bool.{not}
use Rattle.base.proofs.Bools.{and-fails, and-passes}
use Rattle.cells.specs.between.Rows.{owns}
use Rattle.own.proofs.belongs_to.Goals as goal

pub returns-then-all_in : goal.returns-then-all_in
unfolding owns
returns-then-all_in c = and-passes c.all_in.ensures (ap not c.if-all_in.true) (ap not c.on_some_quad.ensures)

pub returns-else-all_in : goal.returns-else-all_in
unfolding owns
returns-else-all_in c = c.if-all_in.false ∙ and-fails c.all_in.ensures (ap not c.if-all_in.false) _

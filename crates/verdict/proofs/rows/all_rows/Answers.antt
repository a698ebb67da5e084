-- `verdict::rows::all_rows` meets its contract. Assumes nothing.
use mathlib.Core.Path.{refl}
use Rattle.base.specs.Lists.{keep, spread}
use Rattle.cells.specs.Cells.{inside, corner3}
use Rattle.verdict.specs.between.FlatTables.{flat_tables, all_rows}
use Rattle.verdict.proofs.rows.all_rows.Goals as goal

pub returns : goal.returns
unfolding all_rows flat_tables spread inside keep corner3
returns c = refl

-- `open_faces::all_once` meets its contract. Assumes nothing.
use Prim.Native.Nat.{◌/◌}
use mathlib.Core.Path.{sym, ◌∙◌, ap₂}
use lib.Dec.{eqb}
use lib.ListN.{length}
use Rattle.base.proofs.Loop.{length_up}
use Rattle.cells.specs.Cells.{once}
use Rattle.cells.specs.between.Rows.{row3, threes}
use Rattle.reasons.proofs.First.{all_by_first}
use Rattle.open_faces.specs.between.Counts.{sides_in}
use Rattle.open_faces.proofs.all_once.Goals as goal

pub returns : goal.returns
returns c = let a = c.args in ap₂ eqb c.first_not_once.ensures (sym (length_up (row3 a.rows.now) (length a.rows.now / 3)))
    ∙ all_by_first (once (sides_in a.labels.now a.quads.now a.c.now a.x.now)) (threes a.rows.now)

-- `levels::sound_part` meets its contract. Assumes nothing.
use mathlib.Core.Path.{◌∙◌, ap₂}
use Prim.Native.Nat.{◌-◌}
use lib.ListN.{take, drop}
use Rattle.cells.specs.Cells.{box_of, boxes_above}
use Rattle.cells.specs.between.Rows.{fours, points_of}
use Rattle.levels.proofs.sound_part.Goals as goal

pub returns : goal.returns
returns c = let a = c.args in c.is_sound.ensures
    ∙ ap₂ (λ f e. boxes_above (box_of (points_of a.coords.now)) a.s.now (fours (take (e - f) (drop f a.rows.now)))) c.entry_of-from.ensures c.entry_of-end.ensures

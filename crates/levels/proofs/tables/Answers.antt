-- `levels::tables` meets its contract. Assumes nothing.
use mathlib.Core.Path.{refl}
use Rattle.levels.specs.between.Levels.{levels}
use Rattle.levels.proofs.tables.Goals as goal

pub returns : goal.returns
unfolding levels
returns c = refl

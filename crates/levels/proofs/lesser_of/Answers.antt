-- `levels::lesser_of` meets its contract. Assumes nothing.
use mathlib.Core.Path.{◌∙◌}
use native.Mathlib.Omega.{arith}
use Rattle.levels.specs.between.Levels.{lesser, levels}
use Rattle.levels.proofs.Entries.{entry_at, lesser-stands, lesser-few}
use Rattle.levels.proofs.lesser_of.Goals as goal

pub returns : goal.returns
unfolding levels
returns c = let e = c.from.ensures ∙ entry_at 190 lesser lesser-stands c.args.x (omega arith) in
    (e, omega (arith, e, lesser-few c.args.x))

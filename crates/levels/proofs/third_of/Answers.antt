-- `levels::third_of` meets its contract. Assumes nothing.
use mathlib.Core.Path.{◌∙◌}
use native.Mathlib.Omega.{arith}
use Rattle.levels.specs.between.Levels.{third, levels}
use Rattle.levels.proofs.Entries.{entry_at, third-stands, third-few}
use Rattle.levels.proofs.third_of.Goals as goal

pub returns : goal.returns
unfolding levels
returns c = let e = c.from.ensures ∙ entry_at 247 third third-stands c.args.x (omega arith) in
    (e, omega (arith, e, third-few c.args.x))

-- `levels::also_of` meets its contract. Assumes nothing.
use mathlib.Core.Path.{◌∙◌}
use native.Mathlib.Omega.{arith}
use Rattle.levels.specs.between.Levels.{also, levels}
use Rattle.levels.proofs.Entries.{entry_at, also-stands, also-few}
use Rattle.levels.proofs.also_of.Goals as goal

pub returns : goal.returns
unfolding levels
returns c = let e = c.from.ensures ∙ entry_at 228 also also-stands c.args.x (omega arith) in
    (e, omega (arith, e, also-few c.args.x))

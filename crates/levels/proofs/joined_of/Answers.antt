-- `levels::joined_of` meets its contract. Assumes nothing.
use mathlib.Core.Path.{◌∙◌}
use native.Mathlib.Omega.{arith}
use Rattle.levels.specs.between.Levels.{joined, levels}
use Rattle.levels.proofs.Entries.{entry_at, joined-stands, joined-few}
use Rattle.levels.proofs.joined_of.Goals as goal

pub returns : goal.returns
unfolding levels
returns c = let e = c.from.ensures ∙ entry_at 209 joined joined-stands c.args.x (omega arith) in
    (e, omega (arith, e, joined-few c.args.x))

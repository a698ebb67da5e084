-- `levels::look_of` meets its contract. Assumes nothing.
use Prim.Native.Nat.{◌+◌, ◌*◌}
use mathlib.Core.Path.{◌∙◌}
use native.Mathlib.Omega.{arith}
use Rattle.levels.specs.between.Levels.{ahead, levels}
use Rattle.levels.proofs.Entries.{entry_at, ahead-stands, look-few}
use Rattle.levels.proofs.look_of.Goals as goal

pub returns : goal.returns
unfolding levels
returns c = let k = 6 * c.args.x + c.args.i in
    let e = c.from.ensures ∙ entry_at 266 ahead ahead-stands k (omega arith) in
    (e, omega (arith, e, look-few c.args.x c.args.i))

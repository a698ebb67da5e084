-- `cells::corners_at` meets its contract. Assumes nothing.
use Prim.Native.Nat.{◌+◌, ◌-◌, ◌*◌}
use lib.ListN.{get_or, take, drop}
use Rattle.std.proofs.Common.{rules}
use mathlib.Core.Path.{◌∙◌}
use Rattle.cells.proofs.Row.{made, at_row}
use Rattle.cells.proofs.corners_at.Goals as goal

pub returns : goal.returns
returns g c = let a = c.args in let k = g.row.N in
    made (λ j. get_or a.c.now (get_or (take (k * a.i + k - k * a.i) (drop (k * a.i) a.rows.now)) j 0) 0) (λ x b q w. search rules) c.from_fn.ensures.items
    ∙ at_row k a.i a.c.now a.rows.now c.requires

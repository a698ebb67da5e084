-- `counting::sides_row` meets its contract. Assumes nothing.
use Rattle.counting.proofs.Sides.{low_below}
use Rattle.counting.proofs.sides_row.Goals as goal

pub sides_of-requires : goal.sides_of-requires
sides_of-requires c = let l = low_below c.args.rows.now c.requires.1.1 in
    (c.requires.1.0, (l _, (l _, l _)))

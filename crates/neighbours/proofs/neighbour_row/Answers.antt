-- `neighbours::neighbour_row` meets its contract. Assumes nothing.
use native.Mathlib.Omega.{arith}
use borrow.Author.Tests.{lt-ltb, le-ltb}
use Rattle.neighbours.specs.between.Reading.{row_in}
use Rattle.neighbours.proofs.neighbour_row.Goals as goal

pub returns-then-u-n : goal.returns-then-u-n
unfolding row_in
returns-then-u-n c = rw (lt-ltb c.args.v.0 c.args.n (omega arith), c.from-start.ensures, c.from-end.ensures, c.from-u.ensures)

pub returns-else-u-n : goal.returns-else-u-n
unfolding row_in
returns-else-u-n c = rw (le-ltb c.args.v.0 c.args.n (omega arith))

-- `hunting::floor_of` meets its contract. Assumes nothing.
use native.Mathlib.Omega.{arith}
use borrow.Author.Tests.{lt-ltb, le-ltb}
use Rattle.hunting.proofs.floor_of.Goals as goal

pub returns-then-place-lt14 : goal.returns-then-place-lt14
returns-then-place-lt14 c = rw (lt-ltb c.args.place.row 14 (omega arith), c.wide.ensures.0)

pub returns-else-place-lt14 : goal.returns-else-place-lt14
returns-else-place-lt14 c = rw (le-ltb c.args.place.row 14 (omega arith))

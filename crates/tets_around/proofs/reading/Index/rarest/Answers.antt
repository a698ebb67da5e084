-- `tets_around::rarest` meets its contract. Assumes nothing.
use borrow.Author.Tests.{le-leb, lt-leb}
use Rattle.tets_around.specs.between.Index.{fewest}
use Rattle.tets_around.proofs.reading.Index.rarest.Goals as goal

pub returns-then-x-z : goal.returns-then-x-z
unfolding fewest
returns-then-x-z c = rw (← c.row-z.ensures.size, ← c.row-y.ensures.size, ← c.row-x.ensures.size, le-leb _ _ c.if-x-y.true, le-leb _ _ c.if-x-z.true)

pub returns-else-x-z : goal.returns-else-x-z
unfolding fewest
returns-else-x-z c = rw (← c.row-z.ensures.size, ← c.row-y.ensures.size, ← c.row-x.ensures.size, le-leb _ _ c.if-x-y.true, lt-leb _ _ c.if-x-z.false)

pub returns-then-y-z : goal.returns-then-y-z
unfolding fewest
returns-then-y-z c = rw (← c.row-z.ensures.size, ← c.row-y.ensures.size, ← c.row-x.ensures.size, lt-leb _ _ c.if-x-y.false, le-leb _ _ c.if-y-z.true)

pub returns-else-y-z : goal.returns-else-y-z
unfolding fewest
returns-else-y-z c = rw (← c.row-z.ensures.size, ← c.row-y.ensures.size, ← c.row-x.ensures.size, lt-leb _ _ c.if-x-y.false, lt-leb _ _ c.if-y-z.false)

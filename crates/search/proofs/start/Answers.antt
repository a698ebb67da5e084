-- `search::start` meets its contract. Assumes nothing.
use mathlib.Core.Path.{◌≡◌}
use lib.ListN.{length}
use native.Mathlib.Omega.{arith}
use borrow.Author.Rules.{rules}
use Rattle.search.proofs.Scanning.{begins_here, begins_last}
use Rattle.search.proofs.start.Goals as goal

pub returns-then-told : goal.returns-then-told
returns-then-told c = λ k o. begins_last c.requires.sought k c.args.last.tuple o.corners

pub seek-requires : goal.seek-requires
seek-requires c = record { sought = c.requires.sought }

pub invariant_of-spot : goal.invariant_of-spot
invariant_of-spot c = let l : length c.args.last.tuple ≡ 8 = search rules in record { close = c.requires.sought.close; placed = record { row = omega arith; at = omega arith }; within = omega (arith, l) }

pub returns-then-seek-v : goal.returns-then-seek-v
returns-then-seek-v c = λ k o.
    begins_here c.requires.sought k c.args.last.tuple (omega (arith, o.corners)) c.wide-v.ensures.0 c.if-seek-v.true (λ ls ps w. c.seek.ensures k ls ps (record { row = omega (arith, o.row); inside = omega (arith, o.corners) }) w)

pub returns : goal.returns
returns c = λ k o. begins_last c.requires.sought k c.args.last.tuple (omega (arith, o.corners))

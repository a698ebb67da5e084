-- `search::seek` meets its contract. Assumes nothing.
use native.Mathlib.Omega.{arith}
use Rattle.search.proofs.Scanning.{two-served, two_serve, meet_skips, points_are}
use Rattle.search.proofs.Skipping.{raised_skips, hunt_skips}
use Rattle.search.proofs.seek.Goals as goal

pub returns-then-d-eq0 : goal.returns-then-d-eq0
returns-then-d-eq0 c = λ k ls ps o w. record { low = λ h. omega arith; miss = λ s leaf a f g. omega arith }

pub neighbour_row-r-requires : goal.neighbour_row-r-requires
neighbour_row-r-requires c = c.requires.sought.lent.rowed

pub neighbour_row-q-requires : goal.neighbour_row-q-requires
neighbour_row-q-requires c = c.requires.sought.lent.rowed

pub neighbour_row-s-requires : goal.neighbour_row-s-requires
neighbour_row-s-requires c = c.requires.sought.lent.rowed

pub nearer-f-requires : goal.nearer-f-requires
nearer-f-requires c = c.args.spot.now.placed.row

pub looks_ahead-requires : goal.looks_ahead-requires
looks_ahead-requires c = (c.requires.sought.lent.rowed, c.args.spot.now.placed)

pub returns-then-looks_ahead : goal.returns-then-looks_ahead
returns-then-looks_ahead c = let a = c.args in let l = a.spot.now.within in
    λ k ls ps o w.
    raised_skips a.spot.now.coords.now ls ps o c.rise-from.ensures
    (hunt_skips a.spot.now.coords.now ls ps w (omega (arith, points_are c.requires.sought ls ps, c.requires.sought.lent.few)) o l (c.looks_ahead.ensures c.if-looks_ahead.true) c.hunt.ensures)

pub meet_rows-requires : goal.meet_rows-requires
meet_rows-requires c = two-served c.requires.sought _ _ _ c.neighbour_row-r.ensures c.neighbour_row-q.ensures c.neighbour_row-s.ensures c.nearer-f.ensures c.fewer-one.ensures c.partner-two.ensures

pub returns : goal.returns
returns c = let a = c.args in let l = a.spot.now.within in
    λ k ls ps o w.
    raised_skips a.spot.now.coords.now ls ps o c.rise-from.ensures
    (meet_skips c.requires.sought o l
    (two_serve c.requires.sought o c.if-d-eq0.false c.joined_of.ensures.0 c.also_of.ensures.0 c.third_of.ensures.0 c.neighbour_row-r.ensures c.neighbour_row-q.ensures c.neighbour_row-s.ensures c.nearer-f.ensures c.fewer-one.ensures c.partner-two.ensures)
    c.meet_rows.ensures ls ps w)

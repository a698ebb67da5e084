-- `records::write_cells` meets its contract: the answer by how far the loop came. Assumes nothing.
use native.Mathlib.Omega.{arith}
use Rattle.records.proofs.Same.{refused_is}
use Rattle.records.proofs.Records.{written-short, filled-full, filled-end, filled-long}
use Rattle.records.proofs.write_cells.Goals as goal

pub returns-then-records-lt-SIZE : goal.returns-then-records-lt-SIZE
returns-then-records-lt-SIZE c = let w = c.from.result in
    rw (refused_is w c.from.ensures.0 c.from.ensures.1) (written-short _ _ _ (omega (arith, c.if-records-lt-SIZE.true)))

pub returns-in-Full : goal.returns-in-Full
returns-in-Full c = filled-full _ c.write_up.ensures c.in-Full.is (omega (arith, c.if-records-lt-SIZE.false)) c.is_any_left-left.ensures c.answer_full.ensures

pub returns-in-Ended : goal.returns-in-Ended
returns-in-Ended c = filled-end _ c.write_up.ensures c.in-Ended.is c.answer_full-in-Ended.ensures

pub returns-in-Long : goal.returns-in-Long
returns-in-Long c = filled-long _ c.write_up.ensures c.in-Long.is

-- `arrays::Room::fill` meets its contract: a room has room for the file's lists. Assumes nothing.
use Rattle.arrays.proofs.Answers.{header-framed}
use borrow.Author.Rules.{rules}
use Rattle.arrays.proofs.Room.fill.Goals as goal

pub read-requires-clause-coords_len : goal.read-requires-clause-coords_len
read-requires-clause-coords_len c = let h = header-framed _ c.requires in search rules

pub read-requires-clause-n_in_bounds : goal.read-requires-clause-n_in_bounds
read-requires-clause-n_in_bounds c = let h = header-framed _ c.requires in search rules

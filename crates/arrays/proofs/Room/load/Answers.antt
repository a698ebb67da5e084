-- `arrays::Room::load` meets its contract: what is handed out is what was read. Assumes nothing.
use Rattle.arrays.proofs.Answers.{header-framed}
use Rattle.arrays.proofs.Room.load.Goals as goal

pub mesh-requires-clause-within : goal.mesh-requires-clause-within
mesh-requires-clause-within c = let h = header-framed _ c.requires in (h.few_vertices, h.few_tets)

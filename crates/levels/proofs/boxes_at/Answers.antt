-- `levels::boxes_at` meets its contract. Assumes nothing.
use Rattle.levels.specs.between.Levels.{levels}
use Rattle.levels.proofs.Entries.{triples-cut, triples-there}
use Rattle.levels.proofs.boxes_at.Goals as goal

pub sound_part-requires : goal.sound_part-requires
unfolding levels
sound_part-requires c = (c.requires.0, rw triples-there (triples-cut c.args.x c.requires.1))

pub returns : goal.returns
unfolding levels
returns c = rw triples-there at c.sound_part.ensures

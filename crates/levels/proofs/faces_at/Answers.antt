-- `levels::faces_at` meets its contract. Assumes nothing.
use Rattle.facet_hints.specs.between.Hints.{faces_hinted}
use Rattle.levels.specs.between.Levels.{levels}
use Rattle.levels.proofs.Entries.{triangles-cut, triangles-there, quads-cut, quads-there}
use Rattle.levels.proofs.faces_at.Goals as goal

pub faces_part-requires : goal.faces_part-requires
unfolding levels
faces_part-requires c = record { cut = (rw triangles-there (triangles-cut c.args.x c.requires), rw quads-there (quads-cut c.args.x c.requires)) }

pub returns : goal.returns
unfolding faces_hinted levels
returns c = rw (triangles-there, quads-there) at c.faces_part.ensures

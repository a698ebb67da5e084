-- `open_faces::sides_row` meets its contract. Assumes nothing.
use Rattle.open_faces.proofs.sides_row.Goals as goal

pub returns : goal.returns
returns c = rw c.corners_at-f.ensures at c.sides_at.ensures

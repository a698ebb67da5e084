-- `open_faces::first_open` meets its contract. Assumes nothing.
use Prim.Native.Nat.{◌/◌}
use lib.ListN.{length}
use native.Mathlib.Omega.{arith}
use Rattle.base.proofs.Loop.{length_up}
use Rattle.space.specs.Arrays.{row4}
use Rattle.cells.specs.Cells.{once}
use Rattle.cells.specs.between.Rows.{row3, threes, fours}
use Rattle.reasons.specs.Reason.{halves, is_closed}
use Rattle.reasons.proofs.First.{fail_few, face_left, face_right}
use Rattle.open_faces.specs.between.Counts.{sides_in}
use Rattle.open_faces.proofs.first_open.Goals as goal

pub returns-then-i-triangles : goal.returns-then-i-triangles
unfolding is_closed
returns-then-i-triangles c = let a = c.args in face_left (is_closed (sides_in a.labels.now a.quads.now a.c.now a.c.now)) (threes a.triangles.now) (fours a.quads.now) c.first_not_once-i.ensures (omega (arith, length_up (row3 a.triangles.now) (length a.triangles.now / 3)))

pub overflow_add-result : goal.overflow_add-result
overflow_add-result c = let a = c.args in let g = sides_in a.labels.now a.quads.now a.c.now a.c.now in
    omega (
      arith,
      fail_few (once g) (row3 a.triangles.now) (length a.triangles.now / 3) c.first_not_once-i.ensures,
      fail_few (halves g) (row4 a.quads.now) (length a.quads.now / 4) c.first_not_halved-j.ensures,
    )

pub returns : goal.returns
unfolding is_closed
returns c = let a = c.args in face_right (is_closed (sides_in a.labels.now a.quads.now a.c.now a.c.now)) (threes a.triangles.now) (fours a.quads.now) c.first_not_once-i.ensures (omega (arith, length_up (row3 a.triangles.now) (length a.triangles.now / 3))) c.first_not_halved-j.ensures

-- `failing::face_in` meets its contract. Assumes nothing.
use Prim.Native.Nat.{◌/◌}
use lib.ListN.{length}
use native.Mathlib.Omega.{arith}
use Rattle.base.proofs.Loop.{length_up}
use Rattle.space.specs.Arrays.{row4}
use Rattle.cells.specs.Cells.{splits}
use Rattle.cells.specs.between.Rows.{row3, threes, fours, facet_in}
use Rattle.reasons.specs.Reason.{is_there}
use Rattle.reasons.proofs.First.{fail_few, face_left, face_right}
use Rattle.failing.proofs.face_in.Goals as goal

pub returns-then-i-triangles : goal.returns-then-i-triangles
unfolding is_there
returns-then-i-triangles c = let s = c.args in face_left (is_there (facet_in s.ix.now.labels.now s.c.now)) (threes s.triangles.now) (fours s.quads.now) c.facet_in-i.ensures (omega (arith, length_up (row3 s.triangles.now) (length s.triangles.now / 3)))

pub overflow_add-result : goal.overflow_add-result
overflow_add-result c = let s = c.args in let f = facet_in s.ix.now.labels.now s.c.now in
    omega (
      arith,
      fail_few f (row3 s.triangles.now) (length s.triangles.now / 3) c.facet_in-i.ensures,
      fail_few (splits f) (row4 s.quads.now) (length s.quads.now / 4) c.split_in.ensures,
    )

pub returns : goal.returns
unfolding is_there
returns c = let s = c.args in face_right (is_there (facet_in s.ix.now.labels.now s.c.now)) (threes s.triangles.now) (fours s.quads.now) c.facet_in-i.ensures (omega (arith, length_up (row3 s.triangles.now) (length s.triangles.now / 3))) c.split_in.ensures

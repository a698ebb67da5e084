-- `packing_front::write_front` meets its contract. Assumes nothing.
use mathlib.Core.Path.{sym}
use native.Mathlib.Omega.{arith}
use lib.Seq.{length-take-le}
use Rattle.packing_front.proofs.Fronts.{front-answers}
use Rattle.packing_front.proofs.write_front.Goals as goal

pub slice_bounds-write-end : goal.slice_bounds-write-end
slice_bounds-write-end c = sym (length-take-le _ _ (omega arith))

pub slice_bounds-write-end-2 : goal.slice_bounds-write-end-2
slice_bounds-write-end-2 c = sym (length-take-le _ _ (omega arith))

pub slice_bounds-write-end-3 : goal.slice_bounds-write-end-3
slice_bounds-write-end-3 c = sym (length-take-le _ _ (omega arith))

pub returns : goal.returns
returns c cs ls ps f = let a = c.args in front-answers a.room.now c.write.result _ a.n a.t a.coordinates.now a.numbers.now a.parts.now c.requires cs ls ps f _ _ _
    c.min-c.ensures c.min-l.ensures c.min-p.ensures (c.write.ensures.answer, c.write.ensures.room)

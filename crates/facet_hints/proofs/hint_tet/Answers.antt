-- `facet_hints::hint_tet` meets its contract. Assumes nothing.
use mathlib.Core.Path.{◌∙◌}
use native.Mathlib.Omega.{arith}
use Rattle.base.proofs.Loop.{part-is}
use Rattle.facet_hints.proofs.Hinting.{front, tet-next}
use Rattle.facet_hints.proofs.hint_tet.Goals as goal

pub loop-i-preserved : goal.loop-i-preserved
loop-i-preserved c = let l = c.loop-i in let vs = c.args.vs.now in let e = front vs l.i (omega arith) in
    (c.hint_square.ensures.same ∙ l.invariant.0, λ m j. l.invariant.1 m (rw e (tet-next (rw (part-is l.i vs ∙ e) at c.hint_square.ensures) j)))

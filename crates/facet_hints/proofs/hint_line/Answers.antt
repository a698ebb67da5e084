-- `facet_hints::hint_line` meets its contract. Assumes nothing.
use mathlib.Core.Path.{◌∙◌}
use native.Mathlib.Omega.{arith}
use Rattle.facet_hints.proofs.Hinting.{front, line_next}
use Rattle.facet_hints.proofs.hint_line.Goals as goal

pub loop-w-preserved : goal.loop-w-preserved
loop-w-preserved c = let l = c.loop-w in
    (c.hint.ensures.same ∙ l.invariant.0, λ m j. l.invariant.1 m (rw (front c.args.ws.now l.w-index (omega arith)) (line_next c.hint.ensures j)))

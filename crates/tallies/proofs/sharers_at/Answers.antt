-- `tallies::sharers_at` meets its contract. Assumes nothing.
use Rattle.std.proofs.Common.{◌∙◌, ap, sym, arith, ◌/◌, length, [], ◌∷◌}
use Rattle.base.specs.Lists.{count, up_to}
use Rattle.base.proofs.Loop.{count-start, count_skip, count-more, count-done}
use Rattle.tets_around.specs.Sharing.{has_all}
use Rattle.reasons.proofs.First.{numbers}
use Rattle.tallies.proofs.sharers_at.Goals as goal
use Rattle.tallies.proofs.sharers_at.Goals.{then-tet_has3, else-tet_has3}

pub loop-i-init : goal.loop-i-init
loop-i-init c = (omega arith, count-start)

pub loop-i-preserved : goal.loop-i-preserved
loop-i-preserved c = elim c.if-tet_has3.branch [
  | then-tet_has3 w ↦ rw w.found-is (omega arith, count-more c.loop-i.invariant.1 (omega arith) (sym c.tet_has3.ensures ∙ w.if-tet_has3.true))
  | else-tet_has3 w ↦ rw w.found-is (omega arith, count_skip c.loop-i.invariant.1 (omega arith) (sym c.tet_has3.ensures ∙ w.if-tet_has3.false))
]

pub returns : goal.returns
returns c = let a = c.args in let q = has_all a.labels.now (a.u.0 ∷ a.v.0 ∷ a.w.0 ∷ []) in
    count-done c.loop-i.invariant.1 (omega arith) ∙ ap (count q) (numbers (up_to (length a.labels.now / 4)))

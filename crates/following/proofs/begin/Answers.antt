-- `following::begin` meets its contract. Assumes nothing.
use mathlib.Core.Path.{◌∙◌, ap, subst}
use native.Mathlib.Omega.{arith}
use lib.ListN.{take}
use Rattle.templates.specs.Tables.{template_of, at}
use Rattle.order.proofs.Fronts.{ordered-front}
use Rattle.record.specs.Marks.{mark_corners}
use Rattle.portions.specs.between.Tuples.{Agree}
use Rattle.following.proofs.InTurn.{agree-take, of-number}
use Rattle.following.proofs.begin.Goals as goal

pub returns-then-mark-kind : goal.returns-then-mark-kind
returns-then-mark-kind c = let n = c.from-kind.ensures in let vs = mark_corners c.args.mark in record {
  own = λ q. subst (λ t. Agree t.corners c.ordered.result (at vs t.order)) (of-number c.args.kind n)
      (agree-take _ _ _ (ap (take (template_of c.from-kind.result).corners) c.ordered.ensures ∙ ordered-front c.from-kind.result vs));
  below = λ l. absurd (let z : ⊥ = omega (arith, c.if-mark-kind.true, n) in z);
}

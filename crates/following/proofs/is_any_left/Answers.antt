-- `following::is_any_left` meets its contract. Assumes nothing.
use mathlib.Core.Path.{sym, ◌∙◌}
use native.Mathlib.Omega.{arith}
use borrow.Author.Tests.{leb-true}
use Rattle.following.proofs.Left.{came_remains, seen_remains}
use Rattle.following.proofs.is_any_left.Goals.{then-mark-ge5, else-mark-ge5}
use Rattle.following.proofs.is_any_left.Goals as goal

pub returns-then-sees : goal.returns-then-sees
returns-then-sees c = elim c.if-mark-ge5.branch [
  | then-mark-ge5 w ↦ c.if-sees.true ∙ seen_remains _ c.args.mark (w.sees.ensures (sym w.value-is ∙ c.if-sees.true)) (omega (arith, w.if-mark-ge5.true)) c.first_after-lo.ensures
  | else-mark-ge5 w ↦ absurd (let z : ⊥ = omega (arith, w.if-mark-ge5.false, leb-true 5 c.args.mark.kind (sym w.value-is ∙ c.if-sees.true)) in z)
]

pub returns-else-sees : goal.returns-else-sees
returns-else-sees c = c.is_some.ensures ∙ came_remains _ _ _ c.next_cell.ensures

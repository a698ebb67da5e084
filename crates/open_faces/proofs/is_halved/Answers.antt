-- `open_faces::is_halved` meets its contract. Assumes nothing.
use mathlib.Core.Path.{◌≡◌, refl, ◌∙◌, ap₂}
use mathlib.Core.Bool.{Bool, true, false, not, cond, beq}
use Rattle.cells.specs.Cells.{one_diagonal, other_diagonal}
use Rattle.open_faces.proofs.is_halved.Goals as goal

differ : (a b : Bool) → not (beq a b) ≡ cond a (not b) b
differ true true = refl
differ true false = refl
differ false true = refl
differ false false = refl

pub returns : goal.returns
unfolding one_diagonal other_diagonal
returns c = let q = c.corners_at-q.ensures in differ _ _ ∙ ap₂ (λ a b. cond a (not b) b) (rw q at c.all_once.ensures) (rw q at c.all_once-2.ensures)

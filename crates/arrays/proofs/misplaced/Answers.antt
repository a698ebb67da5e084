-- `arrays::misplaced` meets its contract: the first test that applies is told. Assumes nothing.
use Rattle.base.proofs.Refusals.{told, past, none_left}
use Rattle.arrays.proofs.misplaced.Goals as goal

pub returns-then-any_flat : goal.returns-then-any_flat
returns-then-any_flat c = told c.any_flat.ensures 7 _ c.if-any_flat.true

pub returns-then-any_crowded : goal.returns-then-any_crowded
returns-then-any_crowded c = past c.any_flat.ensures 7 _ c.if-any_flat.false
    (told c.any_crowded.ensures 8 _ c.if-any_crowded.true)

pub returns-then-any_folded : goal.returns-then-any_folded
returns-then-any_folded c = past c.any_flat.ensures 7 _ c.if-any_flat.false
    (past c.any_crowded.ensures 8 _ c.if-any_crowded.false
    (told c.any_folded.ensures 9 _ c.if-any_folded.true))

pub returns : goal.returns
returns c = past c.any_flat.ensures 7 _ c.if-any_flat.false
    (past c.any_crowded.ensures 8 _ c.if-any_crowded.false
    (past c.any_folded.ensures 9 _ c.if-any_folded.false none_left))

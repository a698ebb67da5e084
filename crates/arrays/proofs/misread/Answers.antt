-- `arrays::misread` meets its contract: the first test that applies is told. Assumes nothing.
use mathlib.Core.Path.{ap}
use mathlib.Core.Bool.{not}
use Rattle.base.proofs.Refusals.{told, past, none_left}
use Rattle.std.proofs.lemmas.Bool.{not_from_false, not_from_true}
use Rattle.arrays.proofs.misread.Goals as goal

pub returns-then-not-all_near : goal.returns-then-not-all_near
returns-then-not-all_near c = told (ap not c.all_near.ensures) 4 _ (not_from_false _ c.if-not-all_near.true)

pub returns-then-any_outside : goal.returns-then-any_outside
returns-then-any_outside c = past (ap not c.all_near.ensures) 4 _ (not_from_true _ c.if-not-all_near.false)
    (told c.any_outside.ensures 5 _ c.if-any_outside.true)

pub returns-then-any_twice : goal.returns-then-any_twice
returns-then-any_twice c = past (ap not c.all_near.ensures) 4 _ (not_from_true _ c.if-not-all_near.false)
    (past c.any_outside.ensures 5 _ c.if-any_outside.false
    (told c.any_twice.ensures 6 _ c.if-any_twice.true))

pub returns : goal.returns
returns c = past (ap not c.all_near.ensures) 4 _ (not_from_true _ c.if-not-all_near.false)
    (past c.any_outside.ensures 5 _ c.if-any_outside.false
    (past c.any_twice.ensures 6 _ c.if-any_twice.false none_left))

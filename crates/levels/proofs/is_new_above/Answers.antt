-- `levels::is_new_above` meets its contract. Assumes nothing.
use mathlib.Core.Path.{◌∙◌, ap}
use lib.Dec.{ltb}
use lib.ListN.{get_or}
use native.Mathlib.Omega.{arith}
use Rattle.base.specs.Lists.{all, up_to}
use Rattle.levels.proofs.Fresh.{comes_not, comes_new}
use Rattle.levels.proofs.is_new_above.Goals as goal

pub returns-then-not-is_in : goal.returns-then-not-is_in
returns-then-not-is_in c = let a = c.args in let v = get_or a.s.now a.d 0 in
    comes_new a.x a.d a.s.now (omega arith) c.is_in.ensures c.if-not-is_in.true
    (c.is_above.ensures ∙ ap (λ k. all (λ i. ltb (get_or a.s.now i 0) v) (up_to k)) c.lesser_of.ensures.0)

pub returns-else-not-is_in : goal.returns-else-not-is_in
returns-else-not-is_in c = let a = c.args in rw c.if-not-is_in.false (comes_not a.x a.d a.s.now (omega arith) c.is_in.ensures c.if-not-is_in.false)

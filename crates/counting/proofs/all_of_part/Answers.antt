-- `counting::all_of_part` meets its contract. Assumes nothing.
use mathlib.Core.Path.{◌∙◌, ap}
use lib.ListN.{get_or}
use lib.Dec.{eqb}
use borrow.Author.Tests.{eq-eqb}
use Rattle.base.specs.Lists.{all}
use Rattle.base.proofs.Loop.{all-next, all_done, listed}
use native.Mathlib.Omega.{arith}
use Rattle.counting.proofs.all_of_part.Goals as goal

pub loop-i-preserved : goal.loop-i-preserved
loop-i-preserved c = all-next c.loop-i.invariant (omega arith) (eq-eqb _ _ c.if-part-parts.false)

pub returns : goal.returns
returns c = all_done c.loop-i.invariant (omega arith) ∙ ap (all (λ i. eqb c.args.part (get_or c.args.parts.now i 0))) (listed 0 c.args.list.now)

-- `counting::all_of_part` meets its contract. Assumes nothing.
use lib.ListN.{length, get_or}
use lib.Dec.{eqb}
use Rattle.base.proofs.Loop.{AllUp}
use Rattle.counting.proofs.all_of_part.Given as goal

abbrev pub invariant-loop-i : goal.invariant-loop-i
invariant-loop-i l = AllUp (λ i. eqb l.part (get_or l.parts i 0)) (λ j. get_or l.list j 0) (length l.list) l.i-index

use mathlib.Core.Path.{refl}
use mathlib.Core.List.{[]}
use native.Mathlib.Omega.{arith}
use lib.ListN.{length-set}
use Rattle.base.proofs.Lay.{laid_none, laid-set}
use Rattle.small_rules.proofs.put.Reads as reads
use Rattle.small_rules.proofs.put.Lts as lts
use Rattle.small_rules.proofs.put.Goals as goal

pub bounds-room-at-2 : goal.bounds-room-at-2
bounds-room-at-2 c = rw length-set (omega arith)

pub returns : goal.returns
returns c = laid-set (laid-set (laid_none _ [] _ refl (omega arith)) _ _ (omega arith) (omega arith) refl) _ 7 (omega arith) (omega arith) refl

-- The loop's invariant: the numbers passed are laid from `from` on. Assumes nothing.
use mathlib.Core.Path.{◌≡◌}
use Prim.Native.Nat.{◌+◌}
use lib.ListN.{length, take}
use Rattle.base.specs.Laid.{Laid}
use Rattle.base.specs.Lists.{spread}
use Rattle.writing_lists.specs.Printed.{apart}
use Rattle.writing_lists.proofs.put_apart.Given as goal

abbrev pub invariant-loop-z : goal.invariant-loop-z
invariant-loop-z l = (l.at ≡ l.from + length (spread apart (take l.z-index l.numbers))) × Laid l.from (spread apart (take l.z-index l.numbers)) l.initial.out l.out

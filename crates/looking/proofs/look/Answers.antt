-- `looking::look` meets its contract: the labels of a file with a sound header are few. Assumes nothing.
use native.Mathlib.Omega.{arith}
use Rattle.looking.proofs.look.Goals as goal

pub counts_of-requires : goal.counts_of-requires
counts_of-requires c = omega (arith, c.decode.ensures.long.1.0, c.requires.few_tets)

-- The loop's invariant: the coordinates passed are laid from 24 on. Assumes nothing.
use lib.ListN.{take}
use Rattle.base.specs.Laid.{Laid}
use Rattle.encoding.specs.File.{coord_bytes}
use Rattle.encoding.proofs.put_points.Given as goal

abbrev pub invariant-loop-k : goal.invariant-loop-k
invariant-loop-k l = Laid 24 (coord_bytes (take l.k l.coordinates)) l.initial.out l.out

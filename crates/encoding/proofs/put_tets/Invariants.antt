-- The loop's invariant: the tetrahedra passed are laid from `from` on. Assumes nothing.
use Rattle.base.specs.Lists.{spread, up_to}
use Rattle.base.specs.Laid.{Laid}
use Rattle.encoding.specs.File.{tet_bytes}
use Rattle.encoding.proofs.put_tets.Given as goal

abbrev pub invariant-loop-j : goal.invariant-loop-j
invariant-loop-j l = Laid l.from (spread (tet_bytes l.numbers l.parts) (up_to l.j)) l.initial.out l.out

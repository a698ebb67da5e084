-- `encoding::put_tets` meets its contract: a tetrahedron more is laid behind the others. Assumes nothing.
use mathlib.Core.Path.{refl}
use native.Mathlib.Omega.{arith}
use Rattle.base.specs.Lists.{spread, up_to}
use Rattle.base.proofs.Lay.{laid_none, laid_more}
use Rattle.base.proofs.Loop.{length_from}
use Rattle.encoding.specs.File.{tet_bytes}
use Rattle.base.proofs.Runs.{spread-up}
use Rattle.encoding.proofs.Strides.{length-spread}
use Rattle.encoding.proofs.Lengths.{tet-long}
use Rattle.encoding.proofs.put_tets.Goals as goal

pub loop-j-init : goal.loop-j-init
unfolding spread
loop-j-init c = laid_none c.args.from _ c.args.out.now refl (omega arith)

pub loop-j-preserved : goal.loop-j-preserved
loop-j-preserved c = let a = c.args in let t = tet_bytes a.numbers.now a.parts.now in
    laid_more c.loop-j.invariant _ (omega (arith, length-spread t 10 (tet-long a.numbers.now a.parts.now) (up_to c.loop-j.j), length_from 0 c.loop-j.j)) c.put_tet.ensures (spread-up t c.loop-j.j)

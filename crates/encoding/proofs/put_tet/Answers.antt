-- `encoding::put_tet` meets its contract: five numbers, one behind the other. Assumes nothing.
use mathlib.Core.Path.{refl}
use native.Mathlib.Omega.{arith}
use Rattle.base.specs.Lists.{spread}
use Rattle.base.proofs.Lay.{laid_more}
use Rattle.encoding.specs.File.{u16_bytes, tet_bytes}
use Rattle.encoding.proofs.put_tet.Goals as goal

pub returns : goal.returns
unfolding tet_bytes u16_bytes spread
returns c = laid_more
    (laid_more
    (laid_more
    (laid_more c.put_u16.ensures _ (omega arith) c.put_u16-2.ensures refl)
    _ (omega arith) c.put_u16-3.ensures refl)
    _ (omega arith) c.put_u16-4.ensures refl)
    _ (omega arith) c.put_u16-5.ensures refl

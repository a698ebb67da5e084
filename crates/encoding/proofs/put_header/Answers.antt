-- `encoding::put_header` meets its contract: six numbers, one behind the other. Assumes nothing.
use mathlib.Core.Path.{refl}
use Rattle.base.proofs.Lay.{laid_more}
use Rattle.encoding.specs.File.{u16_bytes, u32_bytes, header_bytes}
use Rattle.encoding.proofs.put_header.Goals as goal

pub returns : goal.returns
unfolding header_bytes u32_bytes u16_bytes
returns c = laid_more
    (laid_more
    (laid_more
    (laid_more
    (laid_more c.put_u32.ensures 4 refl c.put_u32-2.ensures refl)
    8 refl c.put_u32-3.ensures refl)
    12 refl c.put_u32-4.ensures refl)
    16 refl c.put_u32-5.ensures refl)
    20 refl c.put_u32-6.ensures refl

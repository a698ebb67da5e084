-- `encoding::put_file` meets its contract: the three parts, one behind the other. Assumes nothing.
use mathlib.Core.Path.{refl}
use Prim.Native.Nat.{◌/◌}
use native.Mathlib.Omega.{arith}
use lib.ListN.{length, length-append}
use Rattle.base.proofs.Lay.{laid_more}
use Rattle.encoding.specs.File.{header_bytes, coord_bytes, file_of}
use Rattle.encoding.proofs.Front.{laid-whole}
use Rattle.encoding.proofs.Lengths.{head_long, points-long, file-long}
use Rattle.encoding.proofs.put_file.Goals as goal

pub put_tets-requires : goal.put_tets-requires
put_tets-requires c = let threes = c.requires.threes in (omega arith, c.requires.fours)

pub returns : goal.returns
unfolding file_of
returns c = let cs = c.args.coordinates.now in let ls = c.args.numbers.now in let ps = c.args.parts.now in let threes = c.requires.threes in laid-whole
    (laid_more
    (laid_more c.put_header.ensures 24 (omega (arith, head_long (length cs / 3) (length ps))) c.put_points.ensures refl)
    _ (omega (arith, length-append (header_bytes (length cs / 3) (length ps)) (coord_bytes cs), head_long (length cs / 3) (length ps), points-long cs ls ps)) c.put_tets.ensures refl)
    (omega (arith, file-long cs ls ps))

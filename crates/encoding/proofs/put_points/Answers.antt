-- `encoding::put_points` meets its contract: a coordinate more is laid behind the others. Assumes nothing.
use mathlib.Core.Path.{refl, sym, ap, ◌∙◌}
use mathlib.Core.List.{◌++◌}
use native.Mathlib.Omega.{arith}
use lib.IntN.{pos}
use lib.ListN.{get_or, take}
use lib.Seq.{length-take-le}
use borrow.Author.Rules.{rules}
use Rattle.base.specs.Lists.{spread}
use Rattle.base.proofs.Lay.{laid_none, laid_more}
use Rattle.encoding.specs.File.{u32_bytes, i32_bytes, coord_bytes}
use Rattle.base.proofs.Runs.{spread-more}
use Rattle.encoding.proofs.Strides.{length-spread}
use Rattle.encoding.proofs.Lengths.{point-long}
use Rattle.encoding.proofs.Signs.{bits_are}
use Rattle.encoding.proofs.put_points.Goals as goal

pub loop-k-init : goal.loop-k-init
unfolding spread
loop-k-init c = laid_none 24 _ c.args.out.now refl (omega arith)

pub loop-k-preserved : goal.loop-k-preserved
unfolding i32_bytes
loop-k-preserved c = let cs = c.args.coordinates.now in let k = c.loop-k.k in
    laid_more c.loop-k.invariant _ (omega (arith, length-spread i32_bytes 4 point-long (take k cs), length-take-le k cs (omega arith))) c.put_u32.ensures (spread-more i32_bytes (pos 0) cs k (omega arith) ∙ ap (λ n. coord_bytes (take k cs) ++ u32_bytes n) (sym (c.cast_unsigned.ensures ∙ bits_are (get_or cs k (pos 0)) (search rules))))

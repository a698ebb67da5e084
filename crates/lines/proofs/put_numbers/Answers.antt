-- One number more is laid behind the others.
use Rattle.std.proofs.Common.{◌<◌, ◌++◌, length, get_or, take, ap, arith, length-append}
use Rattle.base.proofs.Lay.{laid_none, laid_more}
use Rattle.lines.specs.Text.{spaced, numbers}
use Rattle.lines.proofs.Numbers.{numbers-none, numbers_more, part_length}
use Rattle.lines.proofs.put_numbers.Goals as goal

pub loop-x-init : goal.loop-x-init
loop-x-init c =
    let a = c.args in
    (omega (arith, ap length numbers-none), laid_none a.from _ a.out.now numbers-none (omega arith))

pub put_number-at-requires : goal.put_number-at-requires
put_number-at-requires c =
    let l = c.loop-x in
    omega (arith, part_length c.args.list.now l.x-index (omega arith), l.invariant.0, l.invariant.1.same)

pub loop-x-preserved : goal.loop-x-preserved
loop-x-preserved c =
    let l = c.loop-x in
    let a = c.args in
    let x = c.from.ensures in
    let n = rw x at c.put_number-at.ensures in
    let h : l.x-index < length a.list.now = omega arith in
    let e = numbers_more a.list.now l.x-index h in (
      omega (arith, n.next, l.invariant.0, ap length e, length-append (numbers (take l.x-index a.list.now)) (spaced (get_or a.list.now l.x-index 0))),
      laid_more l.invariant.1 _ l.invariant.0 n.text e,
    )

-- The digits that were put are the number's, since there are the fewest.
use Rattle.std.proofs.Common.{◌≡◌, ◌+◌, ◌≤◌, List, ℕ, length, take, sym, ◌∙◌, ap, arith}
use Rattle.std.proofs.Math.Seq.{length-take-le}
use Rattle.base.proofs.Lay.{laid_as}
use Rattle.lines.specs.Text.{decimal}
use Rattle.lines.proofs.Digits.{decimal-is, decimal-length, fewest-most}
use Rattle.lines.proofs.put_decimal.Goals as goal

pub put_digits-requires : goal.put_digits-requires
put_digits-requires c = fewest-most (omega arith) c.digit_count-k.ensures

pub slice_bounds-digits-end : goal.slice_bounds-digits-end
slice_bounds-digits-end c = omega (arith, fewest-most (omega arith) c.digit_count-k.ensures)

pub slice_bounds-put_text-end : goal.slice_bounds-put_text-end
slice_bounds-put_text-end c =
    sym (length-take-le c.digit_count-k.result c.put_digits.new.out (omega (arith, fewest-most (omega arith) c.digit_count-k.ensures)))

pub put_text-requires : goal.put_text-requires
put_text-requires c =
    let e = decimal-is (omega arith) c.digit_count-k.ensures c.put_digits.ensures in
    omega (arith, ap length e, decimal-length c.args.x)

pub returns-clause-next : goal.returns-clause-next
returns-clause-next c =
    let e = decimal-is (omega arith) c.digit_count-k.ensures c.put_digits.ensures in
    c.put_text.ensures.next ∙ ap (λ (l : List ℕ). c.args.from + length l) e

pub returns-clause-text : goal.returns-clause-text
returns-clause-text c = laid_as c.put_text.ensures.text (decimal-is (omega arith) c.digit_count-k.ensures c.put_digits.ensures)

-- `writing_lists::put_signed` meets its contract. Assumes nothing.
use mathlib.Core.Path.{sym, ◌∙◌, ap}
use mathlib.Core.List.{◌∷◌}
use Prim.Native.Nat.{◌+◌}
use lib.IntN.{nat_abs}
use lib.ListN.{length}
use Rattle.base.proofs.Lay.{laid_as}
use Rattle.lines.specs.Text.{decimal}
use Rattle.lines.proofs.Numbers.{behind}
use Rattle.writing_lists.proofs.Sizes.{kept, text-below, text_above}
use Rattle.writing_lists.proofs.put_signed.Goals as goal

pub returns-then-z-lt0 : goal.returns-then-z-lt0
returns-then-z-lt0 c = let n = kept c.args.z c.ranges.z in
    let d = c.put_decimal.ensures in let t = c.put_text-at.ensures in let whole = behind t.next t.text d.next d.text
    (text-below c.args.z (rw n at c.if-z-lt0.true)
    ∙ ap (λ k. 45 ∷ decimal k) (sym (c.size_of-size.ensures ∙ ap nat_abs n))) in record { next = whole.0; text = whole.1 }

pub returns : goal.returns
returns c = let n = kept c.args.z c.ranges.z in
    let d = c.put_decimal-2.ensures in let e =
    ap decimal (c.size_of-size.ensures ∙ ap nat_abs n)
    ∙ sym (text_above c.args.z (rw n at c.if-z-lt0.false))
    in
    record { next = d.next ∙ ap (λ l. c.args.from + length l) e; text = laid_as d.text e }

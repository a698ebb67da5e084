-- The corners are laid behind the kind.
use Rattle.std.proofs.Common.{◌≡◌, ◌+◌, ◌-◌, ◌++◌, ℕ, min, length, get_or, take, drop, sym, ap, arith, length-take}
use Rattle.base.specs.Laid.{Laid}
use Rattle.lines.specs.Text.{decimal, numbers, corners_text}
use Rattle.lines.proofs.Digits.{decimal-length}
use Rattle.lines.proofs.Numbers.{behind}
use Rattle.lines.proofs.put_corners.Goals as goal

pub put_numbers-requires : goal.put_numbers-requires
put_numbers-requires c =
    let cell = c.args.cell.now in
    let k = c.min-end in
    let d = rw c.from-2.ensures at c.put_decimal-at.ensures in
    omega (arith, k.ensures, d.next, decimal-length (get_or cell 0 0), length-take (1 + k.result - 1) (drop 1 cell), d.text.same)

pub returns-clause-next : goal.returns-clause-next
unfolding corners_text
returns-clause-next c =
    let cell = c.args.cell.now in
    let k = c.min-end in
    let d = rw c.from-2.ensures at c.put_decimal-at.ensures in
    let n = c.put_numbers.ensures in
    let e : 1 + k.result - 1 ≡ min (get_or cell 0 0) 8 = omega (arith, k.ensures, c.from.ensures) in
    (behind d.next d.text n.next n.text (ap (λ (x : ℕ). decimal (get_or cell 0 0) ++ numbers (take x (drop 1 cell))) (sym e))).0

pub returns-clause-text : goal.returns-clause-text
unfolding corners_text
returns-clause-text c =
    let cell = c.args.cell.now in
    let k = c.min-end in
    let d = rw c.from-2.ensures at c.put_decimal-at.ensures in
    let n = c.put_numbers.ensures in
    let e : 1 + k.result - 1 ≡ min (get_or cell 0 0) 8 = omega (arith, k.ensures, c.from.ensures) in
    (behind d.next d.text n.next n.text (ap (λ (x : ℕ). decimal (get_or cell 0 0) ++ numbers (take x (drop 1 cell))) (sym e))).1

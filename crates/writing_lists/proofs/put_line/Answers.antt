-- `writing_lists::put_line` meets its contract. Assumes nothing.
use mathlib.Core.Path.{refl, sym, ◌∙◌, ap}
use mathlib.Core.List.{[], ◌∷◌, ◌++◌}
use Prim.Native.Nat.{◌+◌, ◌-◌}
use native.Mathlib.Omega.{arith}
use lib.IntN.{pos}
use lib.ListN.{length, get_or, take, drop}
use mir.Syntax.{w64}
use mir.Val.{to_z, of_z}
use Rattle.base.specs.Lists.{spread}
use Rattle.base.proofs.Lay.{laid_as}
use Rattle.lines.proofs.Numbers.{behind, spread-most}
use Rattle.writing_lists.specs.Printed.{signed_text, apart}
use Rattle.writing_lists.proofs.Sizes.{kept}
use Rattle.writing_lists.proofs.Lengths.{signed_length, apart-length, line_none, line_some, others-length}
use borrow.Author.Rules.{rules}
use Rattle.writing_lists.proofs.put_line.Goals as goal

pub returns-then-numbers-eq0 : goal.returns-then-numbers-eq0
returns-then-numbers-eq0 c = let a = c.args in let t = c.put_text.ensures in let e = sym (line_none a.numbers.now c.if-numbers-eq0.true) in
    record { next = t.next ∙ ap (λ l. a.from + length l) e; text = laid_as t.text e }

pub put_apart-end-requires : goal.put_apart-end-requires
put_apart-end-requires c = let zs = c.args.numbers.now in let s = c.put_signed-first.ensures in omega (arith, s.next, s.text.same, signed_length (to_z w64 (of_z w64 (get_or zs 0 (pos 0)))), others-length zs)

pub put_text-requires-2 : goal.put_text-requires-2
put_text-requires-2 c = let zs = c.args.numbers.now in let s = c.put_signed-first.ensures in let t = c.put_apart-end.ensures in let o = others-length zs in
    let m = spread-most apart 22 apart-length (take (length zs - 1) (drop 1 zs)) in
    omega (arith, s.next, s.text.same, t.next, t.text.same, signed_length (to_z w64 (of_z w64 (get_or zs 0 (pos 0)))))

pub returns : goal.returns
returns c = let zs = c.args.numbers.now in let s = c.put_signed-first.ensures in let t = c.put_apart-end.ensures in let u = c.put_text-2.ensures in let g = behind s.next s.text t.next t.text refl in
    let whole = behind g.0 g.1 u.next u.text
    (line_some zs c.if-numbers-eq0.false
    ∙ ap (λ z. signed_text z ++ spread apart (take (length zs - 1) (drop 1 zs)) ++ 10 ∷ []) (sym (kept (get_or zs 0 (pos 0)) (search rules)))) in record { next = whole.0; text = whole.1 }

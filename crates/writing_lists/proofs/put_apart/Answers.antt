-- `writing_lists::put_apart` meets its contract: a number more is laid behind the others. Assumes nothing.
use mathlib.Core.Path.{sym, ◌∙◌, ap}
use Prim.Native.Nat.{◌+◌}
use native.Mathlib.Omega.{arith}
use mathlib.Core.List.{◌++◌}
use borrow.Author.Rules.{rules}
use lib.IntN.{pos}
use lib.ListN.{length, get_or, take}
use Rattle.base.specs.Lists.{spread}
use Rattle.base.proofs.Lay.{laid_none}
use Rattle.base.proofs.Runs.{spread-more}
use Rattle.lines.proofs.Numbers.{behind, spread-nil, spread-part}
use Rattle.writing_lists.specs.Printed.{apart}
use Rattle.writing_lists.proofs.Lengths.{apart-length}
use Rattle.writing_lists.proofs.Sizes.{kept}
use Rattle.writing_lists.proofs.put_apart.Goals as goal

pub loop-z-init : goal.loop-z-init
loop-z-init c = let a = c.args in (omega (arith, ap length (spread-nil apart)), laid_none a.from _ a.out.now (spread-nil apart) (omega arith))

pub put_next-at-requires : goal.put_next-at-requires
put_next-at-requires c = let l = c.loop-z in let a = c.args in omega (arith, spread-part apart 22 apart-length a.numbers.now l.z-index (omega arith), l.invariant.0, l.invariant.1.same)

pub loop-z-preserved : goal.loop-z-preserved
loop-z-preserved c = let l = c.loop-z in let a = c.args in let n = c.put_next-at.ensures in let z = get_or a.numbers.now l.z-index (pos 0) in
    let e =
    spread-more apart (pos 0) a.numbers.now l.z-index (omega arith)
    ∙ ap (λ y. spread apart (take l.z-index a.numbers.now) ++ apart y) (sym (kept z (search rules)))
    in
    behind l.invariant.0 l.invariant.1 n.next n.text e

-- `turning::least_turn` meets its contract. Assumes nothing.
use mathlib.Core.Path.{◌∙◌, ap}
use mathlib.Core.List.{[]}
use Prim.Native.Nat.{◌-◌}
use native.Mathlib.Omega.{arith}
use Rattle.templates.specs.Tables.{at}
use Rattle.templates.specs.between.Eight.{eight}
use Rattle.turning.proofs.Last.{last-start, last_took, last_done, row_ends, row-part}
use Rattle.turning.proofs.least_turn.Goals as goal

pub loop-i-init : goal.loop-i-init
loop-i-init c = last-start (eight [])

pub overflow_mul-from : goal.overflow_mul-from
overflow_mul-from c = omega (arith, row_ends c.args.k c.requires c.loop-i-test.true)

pub overflow_add-to : goal.overflow_add-to
overflow_add-to c = omega (arith, row_ends c.args.k c.requires c.loop-i-test.true)

pub slice_bounds-turned-end : goal.slice_bounds-turned-end
slice_bounds-turned-end c = omega (arith, row_ends c.args.k c.requires c.loop-i-test.true)

pub turned-x-requires : goal.turned-x-requires
turned-x-requires c = tt

pub better-y-requires : goal.better-y-requires
better-y-requires c = tt

pub loop-i-preserved : goal.loop-i-preserved
loop-i-preserved c = let a = c.args in let l = c.loop-i in last_took l.invariant (omega arith)
    (c.turned-x.ensures ∙ ap (λ r. eight (at a.c.now r)) (row-part a.k l.i a.turns.now))
    c.better-y.ensures

pub returns : goal.returns
returns c = last_done c.loop-i.invariant (omega arith)

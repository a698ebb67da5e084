-- `judging::judge_many` meets its contract. Assumes nothing.
use mathlib.Core.Path.{refl, sym, ◌∙◌, ap}
use native.Mathlib.Omega.{arith}
use Rattle.cells.specs.between.Rows.{fours}
use Rattle.judging.specs.between.Last.{last_with}
use Rattle.judging.proofs.Numbers.{gather_start, gather_take, gather_skip, gathered_all, listed-within}
use Rattle.judging.proofs.judge_many.Goals as goal
use Rattle.judging.proofs.judge_many.Goals.{then-belongs_to, else-belongs_to}

pub loop-i-init : goal.loop-i-init
loop-i-init c = (refl, gather_start _)

pub loop-i-preserved : goal.loop-i-preserved
loop-i-preserved c =
    let b = sym c.belongs_to.ensures in
    let g = c.loop-i.invariant.1 in
    elim c.if-belongs_to.branch [
      | then-belongs_to w ↦ (refl, rw (w.list-is, w.k-is) (gather_take g (omega arith) (b ∙ w.if-belongs_to.true)))
      | else-belongs_to w ↦ (refl, rw (w.list-is, w.k-is) (gather_skip g (b ∙ w.if-belongs_to.false)))
    ]

pub judge_list-requires-clause-within : goal.judge_list-requires-clause-within
judge_list-requires-clause-within c =
    listed-within c.args.labels.now c.args.parts.now (fours c.args.quads.now) c.args.c.now
    (gathered_all c.args.labels.now (fours c.args.quads.now) c.args.c.now c.loop-i.invariant.1 (omega arith)) c.requires.labels_len_bound.1

pub returns : goal.returns
returns c = let e = gathered_all c.args.labels.now (fours c.args.quads.now) c.args.c.now c.loop-i.invariant.1 (omega arith) in
    c.judge_list.ensures ∙ ap (λ xs. last_with c.args.labels.now c.args.parts.now xs c.args.c.now c.args.triangles.now c.args.quads.now c.args.within.now) e

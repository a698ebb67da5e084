-- `tets_around::Index::sharing` meets its contract. Assumes nothing.
use mathlib.Core.Path.{sym, ◌∙◌, ap}
use native.Mathlib.Omega.{arith}
use Rattle.base.specs.Lists.{count}
use Rattle.base.proofs.Loop.{count_skip, count-more, count-done, listed}
use Rattle.tets_around.proofs.Around.{row-within, count-fewest}
use Rattle.tets_around.proofs.reading.Index.sharing.Goals as goal
use Rattle.tets_around.proofs.reading.Index.sharing.Goals.{then-tet_has3, else-tet_has3}

pub tet_has3-requires : goal.tet_has3-requires
tet_has3-requires c = omega (arith, (row-within _ _ c.around-row.ensures).below c.loop-i.i-index (omega arith))

pub loop-i-preserved : goal.loop-i-preserved
loop-i-preserved c =
    let l = c.loop-i in
    elim c.if-tet_has3.branch [
      | then-tet_has3 w ↦ (omega arith, rw w.found-is (count-more l.invariant.1 (omega arith) (sym c.tet_has3.ensures ∙ w.if-tet_has3.true)))
      | else-tet_has3 w ↦ (omega arith, rw w.found-is (count_skip l.invariant.1 (omega arith) (sym c.tet_has3.ensures ∙ w.if-tet_has3.false)))
    ]

pub returns : goal.returns
returns c =
    let s = c.args in
    count-done c.loop-i.invariant.1 (omega arith) ∙ ap (count _) (listed 0 c.around-row.result.now) ∙ rw (c.around-row.ensures, c.rarest.ensures) (count-fewest s.self.now.labels.now s.a.0 s.b.0 s.c.0)

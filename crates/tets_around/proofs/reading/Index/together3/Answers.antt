-- `tets_around::Index::together3` meets its contract. Assumes nothing.
use mathlib.Core.Path.{sym, ◌∙◌, ap}
use native.Mathlib.Omega.{arith}
use Rattle.base.specs.Lists.{any}
use Rattle.base.proofs.Loop.{any_next, any_found, any-done, listed}
use Rattle.tets_around.proofs.Around.{row-within, any-fewest}
use Rattle.tets_around.proofs.reading.Index.together3.Goals as goal

pub tet_has3-requires : goal.tet_has3-requires
tet_has3-requires c = omega (arith, (row-within _ _ c.around-row.ensures).below c.loop-i.i-index (omega arith))

pub returns-then-tet_has3 : goal.returns-then-tet_has3
returns-then-tet_has3 c = any_found c.loop-i.invariant (omega arith) (sym c.tet_has3.ensures ∙ c.if-tet_has3.true) ∙ ap (any _) (listed 0 c.around-row.result.now) ∙ rw (c.around-row.ensures, c.rarest.ensures) (any-fewest c.args.self.now.labels.now c.args.u.0 c.args.v.0 c.args.w.0)

pub loop-i-preserved : goal.loop-i-preserved
loop-i-preserved c = any_next c.loop-i.invariant (omega arith) (sym c.tet_has3.ensures ∙ c.if-tet_has3.false)

pub returns : goal.returns
returns c = any-done c.loop-i.invariant (omega arith) ∙ ap (any _) (listed 0 c.around-row.result.now) ∙ rw (c.around-row.ensures, c.rarest.ensures) (any-fewest c.args.self.now.labels.now c.args.u.0 c.args.v.0 c.args.w.0)

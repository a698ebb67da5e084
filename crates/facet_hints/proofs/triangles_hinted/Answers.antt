-- `facet_hints::triangles_hinted` meets its contract. Assumes nothing.
use mathlib.Core.Path.{refl, sym, ◌∙◌}
use borrow.Author.Tests.{not-true, not-false}
use native.Mathlib.Omega.{arith}
use Rattle.base.proofs.Loop.{all_start, all-next, all-fails, all_done}
use Rattle.std.proofs.lemmas.Bool.{not_from_false, not_from_true}
use Rattle.facet_hints.proofs.triangles_hinted.Goals as goal

pub loop-i-init : goal.loop-i-init
loop-i-init c = (refl, all_start)

pub returns-then-not-triangle_hinted : goal.returns-then-not-triangle_hinted
returns-then-not-triangle_hinted c = all-fails c.loop-i.invariant.1 (omega arith) (sym c.triangle_hinted.ensures ∙ not-true _ (not_from_false _ c.if-not-triangle_hinted.true))

pub loop-i-preserved : goal.loop-i-preserved
loop-i-preserved c = (refl, all-next c.loop-i.invariant.1 (omega arith) (sym c.triangle_hinted.ensures ∙ not-false _ (not_from_true _ c.if-not-triangle_hinted.false)))

pub returns : goal.returns
returns c = all_done c.loop-i.invariant.1 (omega arith)

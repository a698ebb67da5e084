-- The kinds that the loop has passed have no cell after the mark. Assumes nothing.
use mathlib.Core.Path.{refl, sym, ◌∙◌}
use native.Mathlib.Omega.{arith}
use lib.ListN.{get_or}
use Rattle.templates.specs.declared.kind.Kind.TheVariants.{Pyramid}
use Rattle.following.specs.between.Following.{kinds}
use Rattle.following.proofs.InTurn.{none_more, none_here, comes_at, came_none}
use Rattle.following.proofs.next_cell.Goals as goal

pub returns-then-is_some : goal.returns-then-is_some
returns-then-is_some c = comes_at _ c.next_of-x.result (sym c.is_some.ensures ∙ c.if-is_some.true) (omega (arith, c.loop-kind-test.true)) c.loop-kind.invariant refl c.next_of-x.ensures

pub loop-kind-preserved : goal.loop-kind-preserved
loop-kind-preserved c = none_more _ c.loop-kind.invariant refl (none_here _ (get_or kinds c.loop-kind.kind-index Pyramid) c.next_of-x.result (sym c.is_some.ensures ∙ c.if-is_some.false) c.next_of-x.ensures)

pub returns : goal.returns
returns c = came_none _ (omega (arith, c.loop-kind-test.false)) c.loop-kind.invariant

-- `facets::is_opposite` meets its contract. Assumes nothing.
use mathlib.Core.Path.{sym, ◌∙◌}
use mir.Syntax.{w64}
use mir.ValLaws.{to_z-of_z}
use Rattle.space.proofs.Near.{above_is}
use Rattle.facets.proofs.Tests.{below-is, opposite_above, opposite-below, opposite-none}
use Rattle.facets.proofs.is_opposite.Goals as goal

pub returns-then-x-gt0 : goal.returns-then-x-gt0
returns-then-x-gt0 c = let x = to_z-of_z w64 c.args.x c.ranges.x in
    rw (to_z-of_z w64 c.args.y c.ranges.y) (below-is c.args.y ∙ sym (opposite_above c.args.x c.args.y (sym (above_is c.args.x) ∙ (rw x at c.if-x-gt0.true))))

pub returns-then-x-lt0 : goal.returns-then-x-lt0
returns-then-x-lt0 c = let x = to_z-of_z w64 c.args.x c.ranges.x in
    rw (to_z-of_z w64 c.args.y c.ranges.y) (above_is c.args.y ∙ sym (opposite-below c.args.x c.args.y (sym (below-is c.args.x) ∙ (rw x at c.if-x-lt0.true))))

pub returns : goal.returns
returns c = let x = to_z-of_z w64 c.args.x c.ranges.x in
    sym (opposite-none c.args.x c.args.y (sym (above_is c.args.x) ∙ (rw x at c.if-x-gt0.false)) (sym (below-is c.args.x) ∙ (rw x at c.if-x-lt0.false)))

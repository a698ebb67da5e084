-- `space::box_product` meets its contract. Assumes nothing.
use mathlib.Core.Path.{sym, ap, ◌∙◌}
use mir.Syntax.{w64}
use mir.ValLaws.{to_z-of_z}
use Rattle.std.specs.Prelude.{Some}
use Rattle.space.specs.Box.{boxed}
use Rattle.space.proofs.Near.{near-sized}
use borrow.Author.Rules.{rules}
use Rattle.space.proofs.box_product.Goals as goal
use Rattle.space.proofs.box_product.Goals.{else-is_near_point-via-then-is_near_point+then-is_near_point-2+then-is_near_point-3+else-is_near_point-4, else-is_near_point-via-then-is_near_point+then-is_near_point-2+else-is_near_point-3, else-is_near_point-via-then-is_near_point+else-is_near_point-2, else-is_near_point-via-else-is_near_point}

pub volume-requires : goal.volume-requires
volume-requires c = (
  near-sized _ (sym c.is_near_point.ensures ∙ c.if-is_near_point.true),
  (
    near-sized _ (sym c.is_near_point-then-is_near_point.ensures ∙ c.if-is_near_point-2.true),
    (
      near-sized _ (sym c.is_near_point-then-is_near_point-2.ensures ∙ c.if-is_near_point-3.true),
      near-sized _ (sym c.is_near_point-then-is_near_point-3.ensures ∙ c.if-is_near_point-4.true),
    ),
  ),
)

pub returns-then-is_near_point-4 : goal.returns-then-is_near_point-4
unfolding boxed
returns-then-is_near_point-4 c = rw (
  sym c.is_near_point.ensures ∙ c.if-is_near_point.true,
  sym c.is_near_point-then-is_near_point.ensures ∙ c.if-is_near_point-2.true,
  sym c.is_near_point-then-is_near_point-2.ensures ∙ c.if-is_near_point-3.true,
  sym c.is_near_point-then-is_near_point-3.ensures ∙ c.if-is_near_point-4.true,
)
    (ap Some (to_z-of_z w64 _ (search rules) ∙ c.volume.ensures))

pub returns-else-is_near_point : goal.returns-else-is_near_point
unfolding boxed
returns-else-is_near_point c =
    elim c.else-is_near_point.branch [
      | else-is_near_point-via-then-is_near_point+then-is_near_point-2+then-is_near_point-3+else-is_near_point-4 w ↦
          rw (
            sym c.is_near_point.ensures ∙ w.if-is_near_point.true,
            sym w.is_near_point-then-is_near_point.ensures ∙ w.if-is_near_point-2.true,
            sym w.is_near_point-then-is_near_point-2.ensures ∙ w.if-is_near_point-3.true,
            sym w.is_near_point-then-is_near_point-3.ensures ∙ w.if-is_near_point-4.false,
          )
      | else-is_near_point-via-then-is_near_point+then-is_near_point-2+else-is_near_point-3 w ↦
          rw (
            sym c.is_near_point.ensures ∙ w.if-is_near_point.true,
            sym w.is_near_point-then-is_near_point.ensures ∙ w.if-is_near_point-2.true,
            sym w.is_near_point-then-is_near_point-2.ensures ∙ w.if-is_near_point-3.false,
          )
      | else-is_near_point-via-then-is_near_point+else-is_near_point-2 w ↦
          rw (sym c.is_near_point.ensures ∙ w.if-is_near_point.true, sym w.is_near_point-then-is_near_point.ensures ∙ w.if-is_near_point-2.false)
      | else-is_near_point-via-else-is_near_point w ↦ rw (sym c.is_near_point.ensures ∙ w.if-is_near_point.false)
    ]

-- `space::volume` meets its contract. Assumes nothing.
use mathlib.Core.Path.{◌≡◌, ◌∙◌}
use mir.Syntax.{w64}
use mir.ValLaws.{to_z-of_z}
use borrow.Author.Rules.{rules}
use Rattle.space.specs.declared.Point.{Point}
use Rattle.space.specs.Box.{from_to, box}
use Rattle.space.specs.between.Working.{Sized}
use Rattle.space.proofs.Near.{from-sized}
use Rattle.space.proofs.volume.Goals as goal

sized : {d : Point} (p q : Point) → Sized 50000 p → Sized 50000 q → d ≡ from_to p q → Sized 100000 d
sized p q s t e = rw e (from-sized p q s t)

pub determinant-requires : goal.determinant-requires
determinant-requires c = let h = c.requires in (
  sized c.args.p c.args.q h.0 h.1.0 c.from_to.ensures,
  (
    sized c.args.p c.args.r h.0 h.1.1.0 c.from_to-2.ensures,
    sized c.args.p c.args.s h.0 h.1.1.1 c.from_to-3.ensures,
  ),
)

pub returns : goal.returns
unfolding box
returns c = to_z-of_z w64 _ (search rules) ∙ c.determinant.ensures ∙
    rw (c.from_to.ensures, c.from_to-2.ensures, c.from_to-3.ensures)

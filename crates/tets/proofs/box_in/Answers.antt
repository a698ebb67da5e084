-- `tets::box_in` meets its contract. Assumes nothing.
use mathlib.Core.Path.{◌∙◌}
use mir.Syntax.{w64}
use mir.ValLaws.{to_z-of_z}
use Rattle.tets.specs.Tets.{box_in}
use borrow.Author.Rules.{rules}
use Rattle.tets.proofs.box_in.Goals as goal

pub returns : goal.returns
unfolding box_in
returns c = to_z-of_z w64 _ (search rules) ∙ c.volume.ensures ∙ rw (c.point_at.ensures.0, c.point_at-2.ensures.0, c.point_at-3.ensures.0, c.point_at-4.ensures.0)

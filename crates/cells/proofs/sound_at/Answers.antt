-- `cells::sound_at` meets its contract. Assumes nothing.
use mathlib.Core.Path.{◌∙◌}
use mir.Syntax.{w64}
use mir.ValLaws.{to_z-of_z}
use Rattle.space.proofs.Near.{above_is}
use borrow.Author.Rules.{rules}
use Rattle.cells.proofs.sound_at.Goals as goal

pub returns : goal.returns
returns c = rw (to_z-of_z w64 c.volume.result (search rules))
    (above_is c.volume.result ∙
    rw (
      c.volume.ensures,
      c.point_at-p.ensures.0,
      c.point_at-q.ensures.0,
      c.point_at-r.ensures.0,
      c.point_at-s.ensures.0,
      c.corners_at-k.ensures,
    ))

-- The triples on faces and those on none are all triples of corners, each once: so what `others` has, with the triangles
-- and the triangles of one diagonal of each quadrilateral, is all of them.
-- Assumes nothing.
use Prim.Native.Nat.{ℕ}
use mathlib.Core.Path.{◌≡◌, refl}
use mathlib.Core.Bool.{Bool, true, ◌&&◌}
use mathlib.Core.List.{List, ◌++◌, map}
use lib.Dec.{eqb}
use lib.ListN.{length}
use Rattle.base.specs.Lists.{all, keep, count, spread, equal}
use Rattle.templates.specs.Tables.{Template, templates}
use Rattle.cells.specs.Cells.{one_diagonal, other_diagonal, corner3, inside}
use Rattle.reasons.specs.Reason.{rising}

-- each rising, as `corner3` has them
unfoldable pub triples_of : Template → List (List ℕ)
triples_of t = map rising (t.triangles ++ spread (λ q. one_diagonal q ++ other_diagonal q) t.quads ++ inside t)

unfoldable pub each_once : Template → Bool
each_once t =
    all (λ ks. eqb (count (equal ks) (triples_of t)) 1) (corner3 t.corners) &&
    eqb (length (triples_of t)) (length (corner3 t.corners))

pub all-triples : all each_once templates ≡ true
unfolding each_once triples_of one_diagonal other_diagonal corner3 inside keep spread equal
all-triples = refl

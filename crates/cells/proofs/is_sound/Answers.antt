-- `cells::is_sound` meets its contract. Assumes nothing.
use Prim.Native.Nat.{◌/◌}
use lib.ListN.{length}
use Rattle.std.proofs.Common.{rules}
use Rattle.space.specs.Box.{is_above0}
use Rattle.space.specs.Arrays.{row4}
use Rattle.templates.specs.Tables.{at}
use Rattle.templates.proofs.Rows.{all_rows}
use Rattle.cells.specs.Cells.{box_of}
use Rattle.cells.specs.between.Rows.{points_of}
use Rattle.cells.proofs.is_sound.Goals as goal

pub returns : goal.returns
returns c = let a = c.args in
    all_rows (λ ks. is_above0 (box_of (points_of a.coords.now) (at a.c.now ks))) (row4 a.triples.now) (length a.triples.now / 4) c.all.ensures.ran (λ x b q g. search rules)

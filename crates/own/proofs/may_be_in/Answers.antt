-- `own::may_be_in` meets its contract. Assumes nothing.
use mathlib.Core.Path.{◌∙◌}
use Rattle.std.proofs.Common.{rules}
use Rattle.space.specs.Arrays.{row4}
use Rattle.templates.proofs.Rows.{all_of}
use Rattle.own.specs.between.Stamps.{has_stamp}
use Rattle.own.proofs.Vertices.{row_part}
use Rattle.own.proofs.may_be_in.Goals as goal

pub returns : goal.returns
returns c = let a = c.args in
    all_of (has_stamp a.m.now) (row4 a.labels.now a.e.0) (c.iter.ensures.rest ∙ rw c.from-at.ensures (row_part a.labels.now a.e.0 c.requires)) c.all.ensures.ran (λ x b q g. search rules)

use Rattle.matrix.specs.between.Matrix.{is_joined}
use Rattle.neighbours.proofs.Rows.{part_blank}
use Rattle.neighbours.proofs.Growing.{grown-none}
use Rattle.neighbours.proofs.put_block.Goals as goal

pub returns-then-is_blank : goal.returns-then-is_blank
returns-then-is_blank c = let a = c.args in grown-none a.from _ a.rows.now (part_blank (is_joined a.m.now) a.u.0 a.v 16 (c.is_blank.ensures c.if-is_blank.true))

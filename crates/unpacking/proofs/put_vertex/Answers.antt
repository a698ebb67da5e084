-- `unpacking::put_vertex` meets its contract: the part of the list is the row. Assumes nothing.
use mathlib.Core.Path.{◌∙◌, ap}
use Prim.Native.Nat.{◌+◌}
use lib.ListN.{length}
use Rattle.base.proofs.Lay.{laid_as}
use Rattle.writing_lists.specs.Printed.{line_of}
use Rattle.unpacking.proofs.Rows.{row_of}
use borrow.Author.Rules.{rules}
use Rattle.unpacking.proofs.put_vertex.Goals as goal

pub returns : goal.returns
returns c = let a = c.args in let p = c.put_line.ensures in let e = row_of a.coordinates.now a.v (search rules) in
    record { next = p.next ∙ ap (λ l. a.at + length (line_of l)) e; text = laid_as p.text (ap line_of e) }

-- `counting::covered` meets its contract. Assumes nothing.
use mathlib.Core.Path.{sym, ◌∙◌}
use Rattle.cells.specs.Cells.{one_diagonal, other_diagonal}
use Rattle.cells.specs.between.Diagonal.{is_diagonal}
use Rattle.counting.proofs.Sides.{low_below}
use Rattle.counting.proofs.covered.Goals as goal

pub sides_of-abd-requires : goal.sides_of-abd-requires
sides_of-abd-requires c = let l = low_below c.args.quads.now c.requires.1.1 in
    (c.requires.1.0, (l _, (l _, l _)))

pub sides_of-ade-requires : goal.sides_of-ade-requires
sides_of-ade-requires c = let l = low_below c.args.quads.now c.requires.1.1 in
    (c.requires.1.0, (l _, (l _, l _)))

pub sides_of-abe-requires : goal.sides_of-abe-requires
sides_of-abe-requires c = let l = low_below c.args.quads.now c.requires.1.1 in
    (c.requires.1.0, (l _, (l _, l _)))

pub sides_of-bde-requires : goal.sides_of-bde-requires
sides_of-bde-requires c = let l = low_below c.args.quads.now c.requires.1.1 in
    (c.requires.1.0, (l _, (l _, l _)))

pub returns-then-is_diagonal : goal.returns-then-is_diagonal
unfolding one_diagonal other_diagonal is_diagonal
returns-then-is_diagonal c = let e = sym c.is_diagonal.ensures ∙ c.if-is_diagonal.true in
    c.if-is_diagonal.true ∙ sym (rw (rw (c.sides_of-abd.ensures, c.sides_of-ade.ensures, c.sides_of-abe.ensures, c.sides_of-bde.ensures) at e))

pub returns-else-is_diagonal : goal.returns-else-is_diagonal
unfolding one_diagonal other_diagonal is_diagonal
returns-else-is_diagonal c = let e = sym c.is_diagonal.ensures ∙ c.if-is_diagonal.false in
    (rw (c.sides_of-abd.ensures, c.sides_of-ade.ensures, c.sides_of-abe.ensures, c.sides_of-bde.ensures) at c.is_diagonal-else-is_diagonal.ensures) ∙
    sym (rw (rw (c.sides_of-abd.ensures, c.sides_of-ade.ensures, c.sides_of-abe.ensures, c.sides_of-bde.ensures) at e))

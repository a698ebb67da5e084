-- `counting::is_one_part` meets its contract. Assumes nothing.
use mathlib.Core.Path.{sym, ◌∙◌}
use native.Mathlib.Omega.{arith}
use borrow.Author.Tests.{eqb-false}
use Rattle.counting.proofs.Parts.{one-first}
use Rattle.counting.proofs.is_one_part.Goals as goal

pub returns-else-is_empty : goal.returns-else-is_empty
returns-else-is_empty c = let n = eqb-false _ _ (sym c.is_empty.ensures ∙ c.if-is_empty.false) in
    c.all_of_part.ensures ∙ one-first c.args.parts.now c.args.list.now (omega (arith, n))

-- `tets::is_outside` meets its contract. Assumes nothing.
use mathlib.Core.Path.{◌∙◌}
use Rattle.std.proofs.Common.{rules}
use Rattle.std.proofs.lemmas.Iterator.{YieldsList-from_slice}
use Rattle.std.proofs.lemmas.Iterator.Search.{any_from_yields_List}
use lib.Dec.{leb}
use Rattle.space.specs.Arrays.{row4}
use Rattle.tets.specs.Tets.{outside}
use Rattle.tets.proofs.Tests.{any-listed}
use Rattle.tets.proofs.is_outside.Goals as goal

pub returns : goal.returns
unfolding outside
returns c = let a = c.args in let l = row4 a.labels.now a.e.0 in
    any_from_yields_List (leb a.n) _ _ _ c.any.ensures.ran (YieldsList-from_slice l (search rules)) (λ x b q k. search rules) ∙ any-listed (leb a.n) l

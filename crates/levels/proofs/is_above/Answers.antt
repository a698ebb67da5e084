-- `levels::is_above` meets its contract. Assumes nothing.
use mathlib.Core.Path.{◌∙◌, ap}
use lib.Dec.{ltb}
use lib.ListN.{get_or, take}
use Rattle.std.proofs.Common.{rules}
use Rattle.std.proofs.lemmas.Iterator.{YieldsList-from_slice}
use Rattle.std.proofs.lemmas.Iterator.Search.{all_from_yields_List}
use Rattle.base.specs.Lists.{all, up_to}
use Rattle.base.proofs.Members.{all_map}
use Rattle.levels.proofs.Fresh.{all-listed, take-front}
use Rattle.levels.proofs.is_above.Goals as goal

pub returns : goal.returns
returns c = let a = c.args in let l = take a.count a.s.now in
    all_from_yields_List (λ z. ltb z a.v.0) _ _ _ c.all.ensures.ran (YieldsList-from_slice l (search rules)) (λ x b q k. search rules)
    ∙ all-listed (λ z. ltb z a.v.0) l
    ∙ ap (all (λ z. ltb z a.v.0)) (take-front a.count a.s.now c.requires)
    ∙ all_map (λ z. ltb z a.v.0) (λ j. get_or a.s.now j 0) (up_to a.count)

-- `tets::any_flat` meets its contract. Assumes nothing.
use mathlib.Core.Path.{refl, ◌∙◌}
use Prim.Native.Nat.{◌/◌}
use native.Mathlib.Nat.{sub-zero}
use lib.ListN.{length}
use Rattle.std.proofs.Common.{rules}
use Rattle.std.proofs.lemmas.Iterator.{YieldsList-from_range}
use Rattle.std.proofs.lemmas.Iterator.Search.{any_from_yields_List}
use Rattle.tets.specs.Tets.{flat}
use Rattle.tets.proofs.Tests.{any-range}
use Rattle.tets.proofs.any_flat.Goals as goal

pub returns : goal.returns
returns c = let a = c.args in let t = length a.labels.now / 4 in
    any_from_yields_List (flat a.coords.now a.labels.now) _ _ _ c.any.ensures.ran (YieldsList-from_range 0 t t refl (sub-zero t)) (λ x b q k. search rules)
    ∙ any-range (flat a.coords.now a.labels.now) t

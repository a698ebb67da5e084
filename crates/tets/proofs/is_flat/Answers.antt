-- `tets::is_flat` meets its contract. Assumes nothing.
use Prim.Native.Nat.{ℕ, ◌+◌, ◌*◌}
use mathlib.Core.List.{List}
use mathlib.Core.Path.{◌≡◌, ◌∙◌, ap}
use mir.Val.{to_z, of_z}
use mir.Syntax.{w64}
use mir.ValLaws.{to_z-of_z}
use lib.ListN.{get_or}
use Rattle.tets.specs.Tets.{box_in, flat}
use Rattle.tets.proofs.Tests.{flat-is}
use borrow.Author.Rules.{rules}
use Rattle.tets.proofs.is_flat.Goals as goal

pub returns : goal.returns
unfolding flat
returns c = let s = c.args in let zs = s.coords.now in let ls = s.labels.now in let e = s.e.0 in let b = box_in zs (get_or ls (4 * e) 0) (get_or ls (4 * e + 1) 0) (get_or ls (4 * e + 2) 0) (get_or ls (4 * e + 3) 0) in
    let q : to_z w64 (of_z w64 c.box_in.result) ≡ b = to_z-of_z w64 _ (search rules) ∙ c.box_in.ensures ∙ ap (λ (l : List ℕ). box_in zs (get_or l 0 0) (get_or l 1 0) (get_or l 2 0) (get_or l 3 0)) c.corners.ensures in
    rw q (flat-is b)

-- In a listed tuple the vertex at a place is above those that it must be above.
-- Assumes nothing.
use Prim.Native.Nat.{ℕ, ◌+◌, ◌<◌}
use mathlib.Core.Path.{◌≡◌, ◌∙◌}
use mathlib.Core.Bool.{true}
use mathlib.Core.List.{List}
use native.Mathlib.Omega.{arith}
use borrow.Author.Tests.{ltb-true}
use lib.Dec.{ltb}
use lib.IntN.{ℤ}
use lib.ListN.{get_or}
use Rattle.base.specs.Lists.{all, up_to}
use Rattle.base.proofs.Lists.{both_left, all-at}
use Rattle.base.proofs.Members.{from-has}
use Rattle.space.specs.Arrays.{mesh_of}
use Rattle.templates.specs.Tables.{template_of, at}
use Rattle.least.specs.Least.{is_least}
use Rattle.rule.specs.between.Leaf.{is_leaf}
use Rattle.levels.specs.between.Levels.{base, lesser}
use Rattle.listed.proofs.Leaves.{above_all, least-is}

pub leaf_above : (zs : List ℤ) (ls ps : List ℕ) (k : ℕ) (s : List ℕ) → is_leaf (mesh_of zs ls ps) (template_of k) s ≡ true → (y : ℕ) → y < (template_of k).corners → (j : ℕ) → j < get_or lesser (base k + y) 0 → get_or s j 0 < get_or s y 0
unfolding is_leaf
leaf_above zs ls ps k s leaf y h j l =
    let t = template_of k in
    let e : above_all s t.corners (base k) ≡ true = least-is k s ∙ both_left (is_least t (at s t.places)) _ leaf in
    let f = all-at (λ d. all (λ j. ltb (get_or s j 0) (get_or s d 0)) (up_to (get_or lesser (base k + d) 0))) (up_to t.corners) e (from-has 0 t.corners y (omega arith) (omega arith)) in
    ltb-true _ _ (all-at (λ j. ltb (get_or s j 0) (get_or s y 0)) (up_to (get_or lesser (base k + y) 0)) f (from-has 0 (get_or lesser (base k + y) 0) j (omega arith) (omega arith)))

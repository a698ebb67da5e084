-- The test of a whole tuple: least form level by level.
-- Assumes nothing.
use Prim.Native.Nat.{ℕ, ◌+◌}
use mathlib.Core.Path.{◌≡◌}
use mathlib.Core.Bool.{Bool, true, false, cond, and_assoc}
use mathlib.Core.List.{List}
use lib.Dec.{eqb, ltb}
use lib.ListN.{get_or}
use Rattle.base.specs.Lists.{all, up_to}
use Rattle.templates.specs.Tables.{hexahedron, prism, pyramid, template_of, at}
use Rattle.least.specs.Least.{first_is_less, rises_at, is_least}
use Rattle.levels.specs.between.Levels.{base, lesser}

-- each of the first k vertices is above those that it must be above
abbrev pub above_all : List ℕ → ℕ → ℕ → Bool
above_all s k b = all (λ d. all (λ j. ltb (get_or s j 0) (get_or s d 0)) (up_to (get_or lesser (b + d) 0))) (up_to k)

pub least-is : (k : ℕ) (s : List ℕ) → above_all s (template_of k).corners (base k) ≡ is_least (template_of k) (at s (template_of k).places)
unfolding is_least rises_at first_is_less
least-is k s = go (eqb k 8) (eqb k 6)
  where
    go : (a b : Bool) → above_all s (cond a hexahedron (cond b prism pyramid)).corners (cond a 0 (cond b 8 14)) ≡ is_least (cond a hexahedron (cond b prism pyramid)) (at s (cond a hexahedron (cond b prism pyramid)).places)
    go true b = simp and_assoc
    go false true = simp and_assoc
    go false false = simp and_assoc

-- Where the rows of a kind stand in the tables of the levels.
-- Assumes nothing.
use Prim.Native.Nat.{ℕ, ◌+◌, ◌<◌, ◌≤◌}
use mathlib.Core.Bool.{Bool, true, false, cond}
use native.Mathlib.Omega.{arith}
use lib.Dec.{eqb}
use Rattle.templates.specs.Tables.{hexahedron, prism, pyramid, template_of}
use Rattle.levels.specs.between.Levels.{base}

-- the rows of a kind
pub row-in : (k d : ℕ) → d < (template_of k).corners → (base k + d < 19) × (d < 8)
row-in k d h = go (eqb k 8) (eqb k 6) h
  where
    go : (a b : Bool) → d < (cond a hexahedron (cond b prism pyramid)).corners → (cond a 0 (cond b 8 14) + d < 19) × (d < 8)
    go true b h = (omega arith, omega arith)
    go false true h = (omega arith, omega arith)
    go false false h = (omega arith, omega arith)

pub rows_in : (k : ℕ) → base k + (template_of k).corners ≤ 19
rows_in k = go (eqb k 8) (eqb k 6)
  where
    go : (a b : Bool) → cond a 0 (cond b 8 14) + (cond a hexahedron (cond b prism pyramid)).corners ≤ 19
    go true b = omega arith
    go false true = omega arith
    go false false = omega arith

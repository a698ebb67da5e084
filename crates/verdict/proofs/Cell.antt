-- A tuple is a cell exactly where no condition fails. Assumes nothing.
use mathlib.Core.Path.{◌≡◌, refl}
use mathlib.Core.Bool.{Bool, true, false, cond, ◌&&◌}
use mathlib.Core.List.{List}
use Prim.Native.Nat.{ℕ}
use lib.Dec.{eqb}
use Rattle.space.specs.Mesh.{Mesh}
use Rattle.templates.specs.Tables.{Template}
use Rattle.cells.specs.Cells.{is_tuple, has_edges, has_faces, is_sound, is_filled, is_one_part, is_cell, first_failing}

by_cases : (a b c d e f : Bool) → (a && b && c && d && e && f) ≡ eqb (cond a (cond b (cond c (cond d (cond e (cond f 0 6) 5) 4) 3) 2) 1) 0
by_cases false b c d e f = refl
by_cases true false c d e f = refl
by_cases true true false d e f = refl
by_cases true true true false e f = refl
by_cases true true true true false f = refl
by_cases true true true true true false = refl
by_cases true true true true true true = refl

pub cell-is : (m : Mesh) (t : Template) (c : List ℕ) → is_cell m t c ≡ eqb (first_failing m t c) 0
unfolding is_cell first_failing
cell-is m t c =
    by_cases (is_tuple m t c) (has_edges m t c) (has_faces m t c) (is_sound m t c) (is_filled m t c) (is_one_part m t c)

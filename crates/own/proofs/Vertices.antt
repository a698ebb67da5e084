-- The four vertices of a tetrahedron as a part of the labels. Assumes nothing.
use mathlib.Core.Path.{◌≡◌, refl, ◌∙◌, ap, ap₂}
use mathlib.Core.List.{List, [], ◌∷◌}
use Prim.Native.Nat.{ℕ, ◌+◌, ◌-◌, ◌*◌, ◌/◌, ◌≤◌, ◌<◌}
use native.Mathlib.Omega.{arith}
use lib.ListN.{length, get_or, take, drop, length-drop}
use Rattle.std.proofs.lemmas.List.{get_or-drop}
use Rattle.space.specs.Arrays.{row4}

-- the first four of a list
four : (xs : List ℕ) → 4 ≤ length xs → take 4 xs ≡ get_or xs 0 0 ∷ get_or xs 1 0 ∷ get_or xs 2 0 ∷ get_or xs 3 0 ∷ []
four [] h = absurd (omega arith)
four (a ∷ []) h = absurd (omega arith)
four (a ∷ b ∷ []) h = absurd (omega arith)
four (a ∷ b ∷ d ∷ []) h = absurd (omega arith)
four (a ∷ b ∷ d ∷ e ∷ xs) h = refl

-- `&labels[4 * i..4 * i + 4]`
pub row_part : (ls : List ℕ) (i : ℕ) → i < length ls / 4 → take (4 * i + 4 - 4 * i) (drop (4 * i) ls) ≡ row4 ls i
row_part ls i h =
    let e : 4 * i + 4 - 4 * i ≡ 4 = omega arith in
    let z : 4 * i + 0 ≡ 4 * i = omega arith in
    rw e (four (drop (4 * i) ls) (omega (arith, length-drop (4 * i) ls)) ∙ rw (get_or-drop (4 * i) ls 0 0, get_or-drop (4 * i) ls 1 0, get_or-drop (4 * i) ls 2 0, get_or-drop (4 * i) ls 3 0, z))

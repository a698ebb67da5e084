-- The tests of one tetrahedron: over all tetrahedra, its four vertices in turn, and a sign. Assumes nothing.
use mathlib.Core.Path.{◌≡◌, refl, sym, ◌∙◌, ap}
use mathlib.Core.Bool.{Bool, true, false, not, ◌||◌}
use mathlib.Core.List.{List, [], ◌∷◌, map}
use Prim.Native.Nat.{ℕ, zero, suc}
use native.Mathlib.Numerals.{add-one}
use native.Mathlib.Omega.{arith}
use lib.IntN.{ℤ, pos, negsuc}
use lib.ListN.{get_or}
use lib.Signed.{le_z}
use borrow.Author.Tests.{lt-leb}
use Rattle.std.specs.List.{list_any, range_with_len}
use Rattle.base.specs.Lists.{any, from, up_to}
use Rattle.base.proofs.Bools.{or-false, or-found, or-passes}
use Rattle.space.specs.Box.{is_above0}
use Rattle.space.specs.Arrays.{row4}
use Rattle.tets_around.proofs.Around.{any-map}

-- ---- a chain's answers, in the words of these contracts

pub any-listed : {A : Type 0} (p : A → Bool) (xs : List A) → list_any p xs ≡ any p xs
any-listed p [] = refl
any-listed p (x ∷ xs) = ap (λ b. p x || b) (any-listed p xs)

range-from : (i k : ℕ) → range_with_len i k ≡ from i k
range-from i zero = refl
range-from i (suc k) = ap (λ l. i ∷ l) (rw add-one (range-from (suc i) k))

pub any-range : (q : ℕ → Bool) (t : ℕ) → list_any q (range_with_len 0 t) ≡ any q (up_to t)
any-range q t = any-listed q (range_with_len 0 t) ∙ ap (any q) (range-from 0 t)

pub any-up : (q : ℕ → Bool) (t : ℕ) → any q (map (λ i. i) (up_to t)) ≡ any q (up_to t)
any-up q t = any-map (λ i. i) q (up_to t)

-- ---- `if` the test passes at one of the four vertices

module _ (q : ℕ → Bool) (ls : List ℕ) (e : ℕ) {cs : List ℕ} (h : cs ≡ row4 ls e) where
  at : (i : ℕ) {r : Bool} → r ≡ q (get_or cs i 0) → r ≡ q (get_or (row4 ls e) i 0)
  at i f = f ∙ ap (λ l. q (get_or l i 0)) h

  module _ {r1 : Bool} (f1 : r1 ≡ q (get_or cs 0 0)) where
    pub vertex_1 : r1 ≡ true → true ≡ any q (row4 ls e)
    vertex_1 t = or-found (at 0 f1) t _

    module _ {r2 : Bool} (n1 : r1 ≡ false) (f2 : r2 ≡ q (get_or cs 1 0)) where
      pub vertex_2 : r2 ≡ true → true ≡ any q (row4 ls e)
      vertex_2 t = or-passes (at 0 f1) n1 (or-found (at 1 f2) t _)

      module _ {r3 : Bool} (n2 : r2 ≡ false) (f3 : r3 ≡ q (get_or cs 2 0)) where
        pub vertex_3 : r3 ≡ true → true ≡ any q (row4 ls e)
        vertex_3 t = or-passes (at 0 f1) n1 (or-passes (at 1 f2) n2 (or-found (at 2 f3) t _))

        pub vertex_4 : {r4 : Bool} → r3 ≡ false → r4 ≡ q (get_or cs 3 0) → r4 ≡ any q (row4 ls e)
        vertex_4 n3 f4 = or-passes (at 0 f1) n1 (or-passes (at 1 f2) n2 (or-passes (at 2 f3) n3 (at 3 f4 ∙ sym (or-false _))))

-- ---- a sign

pub flat-is : (z : ℤ) → le_z z (pos 0) ≡ not (is_above0 z)
flat-is (pos zero) = refl
flat-is (pos (suc k)) = lt-leb (suc k) 0 (omega arith)
flat-is (negsuc k) = refl

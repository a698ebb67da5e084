-- What was read of the two parts is what the file says, and coordinates that pass the test are in bounds.
-- Assumes nothing.
use mathlib.Core.Path.{◌≡◌, refl, sym, ◌∙◌}
use mathlib.Core.List.{List, [], ◌∷◌}
use mathlib.Core.Bool.{Bool, true, false, ◌&&◌}
use Prim.Native.Nat.{ℕ, zero, suc, ◌+◌, ◌*◌, ◌-◌, ◌<◌}
use native.Mathlib.Omega.{arith}
use lib.ListN.{length, get_or, take, drop}
use lib.IntN.{ℤ, pos}
use Rattle.base.specs.Lists.{all}
use Rattle.base.specs.between.Size.{Small}
use Rattle.base.proofs.Bools.{and_left, and_right}
use Rattle.base.proofs.Loop.{part-is}
use Rattle.space.specs.Box.{near}
use Rattle.space.specs.between.Working.{Close}
use Rattle.space.proofs.Near.{near-small}
use Rattle.layout.specs.Layout.{coords_in, labels_in, parts_in, coords_of, labels_of, parts_of}
use Rattle.layout.specs.between.Framed.{Framed}

-- what was read of `&file[24..]` and of `&file[24 + 12 * n..]` is what the file says
module _ {f : List ℕ} {n t : ℕ} (h : Framed f n t) where
  pub coords_of_part : {l : List ℤ} {k : ℕ} → l ≡ coords_in (take (length f - 24) (drop 24 f)) k → k ≡ 3 * n → l ≡ coords_of f
  coords_of_part e p = e ∙ rw (part-is 24 f, p, h.vertex)

  pub labels_of_part : {l : List ℕ} {k : ℕ} → l ≡ labels_in (take (length f - (24 + 12 * n)) (drop (24 + 12 * n) f)) k → k ≡ 4 * t → l ≡ labels_of f
  labels_of_part e p = e ∙ rw (part-is (24 + 12 * n) f, p, h.vertex, h.tet)

  pub parts_of_part : {l : List ℕ} {k : ℕ} → l ≡ parts_in (take (length f - (24 + 12 * n)) (drop (24 + 12 * n) f)) k → k ≡ t → l ≡ parts_of f
  parts_of_part e p = e ∙ rw (part-is (24 + 12 * n) f, p, h.vertex, h.tet)

-- coordinates that pass the test are in bounds
pub near-close : (zs : List ℤ) → all near zs ≡ true → Close zs
near-close zs e = record { close = at zs e }
  where
    at : (zs : List ℤ) → all near zs ≡ true → (i : ℕ) → Small 50000 (get_or zs i (pos 0))
    at [] e i = record { small = omega arith }
    at (z ∷ zs) e zero = near-small z (and_left (near z) (all near zs) e)
    at (z ∷ zs) e (suc i) = at zs (and_right (near z) (all near zs) e) i

and-false : (b : Bool) → (b && false) ≡ false
and-false true = refl
and-false false = refl

-- a test of each entry is the test of all
module _ {A : Type 0} (q : A → Bool) (d : A) where
  all_hold : (xs : List A) → ((i : ℕ) → i < length xs → q (get_or xs i d) ≡ true) → true ≡ all q xs
  all_hold [] h = refl
  all_hold (x ∷ xs) h = rw (h 0 (omega arith)) (all_hold xs (λ i g. h (suc i) (omega arith)))

  one_fails : (xs : List A) (i : ℕ) → i < length xs → q (get_or xs i d) ≡ false → false ≡ all q xs
  one_fails [] i g e = absurd (omega arith)
  one_fails (x ∷ xs) zero g e = rw e
  one_fails (x ∷ xs) (suc i) g e = sym (rw (sym (one_fails xs i (omega arith) e)) (and-false (q x)))

  pub all_by : (xs : List A) (r : Bool) → (r ≡ true → (i : ℕ) → i < length xs → q (get_or xs i d) ≡ true) → (r ≡ false → (i : ℕ) × (i < length xs) × (q (get_or xs i d) ≡ false)) → r ≡ all q xs
  all_by xs true each some = all_hold xs (each refl)
  all_by xs false each some = let w = some refl in one_fails xs w.0 w.1 w.2

-- What a closure makes of the places of a row, and the numbers of a row cut from a table. Assumes nothing.
use Prim.Native.Nat.{ℕ, zero, suc, ◌+◌, ◌-◌, ◌*◌, ◌/◌, ◌≤◌, ◌<◌}
use mathlib.Core.Path.{◌≡◌, refl, sym, ◌∙◌, ap, ap₂, subst}
use mathlib.Core.List.{List, [], ◌∷◌, map}
use denote.Param.Members.{Mut}
use lib.ListN.{length, get_or, take, drop, length-drop}
use lib.Seq.{length-take-le}
use native.Mathlib.Nat.{mul-le-mul_left, mul-suc}
use native.Mathlib.Omega.{arith}
use Rattle.std.specs.Array.{IsFromFnResult, IsFromFnResultFrom}
use Rattle.std.specs.Fn.{Called}
use Rattle.std.proofs.Math.Nat.{mul-div-le}
use Rattle.base.specs.Lists.{from, up_to}
use Rattle.base.proofs.Loop.{listed}
use Rattle.templates.specs.Tables.{at}
use Rattle.templates.specs.between.Flat.{places, row_at}

-- a closure f that makes v of each place, and leaves what it holds, in `array::from_fn(f)`
module _ {F : Type 0} {g : Mut F (ℕ × Unit {0}) ℕ} (v : ℕ → ℕ) {f : F} (k : (x b : ℕ) (q : F) → Called g f (x, tt) b q → (q ≡ f) × (b ≡ v x)) where
  made_from : (ys : List ℕ) (i n : ℕ) → IsFromFnResultFrom g f ys i n → map (λ j. get_or ys j 0) (from i n) ≡ map v (from i n)
  made_from ys i zero w = refl
  made_from ys i (suc n) w = let h = k i w.1 w.0 w.3 in let e : i + 1 ≡ suc i = omega arith in
      ap₂ (λ x xs. x ∷ xs) (w.2.1 0 ∙ h.1) (made_from ys (suc i) n (subst (λ j. IsFromFnResultFrom g f ys j n) e (subst (λ p. IsFromFnResultFrom g p ys (i + 1) n) h.0 w.4)))

  pub made : {ys : List ℕ} {n : ℕ} → IsFromFnResult g f ys n → ys ≡ map v (up_to n)
  made {ys} {n} w = sym (listed 0 ys) ∙ ap (λ k. map (λ j. get_or ys j 0) (up_to k)) w.long ∙ made_from ys 0 n w.each

cons : (x : ℕ) (xs : List ℕ) (i k : ℕ) → map (λ j. get_or (x ∷ xs) j 0) (from (suc i) k) ≡ map (λ j. get_or xs j 0) (from i k)
cons x xs i zero = refl
cons x xs i (suc k) = ap (λ l. get_or xs i 0 ∷ l) (cons x xs (suc i) k)

-- n numbers from s on
part : (s n : ℕ) (xs : List ℕ) → s + n ≤ length xs → take n (drop s xs) ≡ map (λ j. get_or xs j 0) (from s n)
part s zero xs h = refl
part s (suc n) [] h = absurd (omega arith)
part zero (suc n) (x ∷ xs) h = ap (λ l. x ∷ l) (part zero n xs (omega arith) ∙ sym (cons x xs 0 n))
part (suc s) (suc n) (x ∷ xs) h = part s (suc n) xs (omega arith) ∙ sym (cons x xs s (suc n))

-- these places in turn
shifted : (s i k : ℕ) → from (s + i) k ≡ map (λ j. s + j) (from i k)
shifted s i zero = refl
shifted s i (suc k) = let e : suc (s + i) ≡ s + suc i = omega arith in ap (λ l. (s + i) ∷ l) (ap (λ j. from j k) e ∙ shifted s (suc i) k)

placed : (s k : ℕ) → from s k ≡ places s k
placed s zero = refl
placed s (suc k) = let e : suc s ≡ s + 1 = omega arith in ap (λ l. s ∷ l) (ap (λ j. from j k) e ∙ shifted s 1 k)

map-map : (f g : ℕ → ℕ) (xs : List ℕ) → map (λ x. f (g x)) xs ≡ map f (map g xs)
map-map f g [] = refl
map-map f g (x ∷ xs) = ap (λ l. f (g x) ∷ l) (map-map f g xs)

row_ends : (k i l : ℕ) → i < l / k → k * i + k ≤ l
row_ends k i l h = omega (arith, mul-le-mul_left {m = suc i} {n = l / k} k (omega arith), mul-suc k i, mul-div-le l k)

-- row i, as cut from the table
pub row_cut : (k i : ℕ) (xs : List ℕ) → i < length xs / k → take (k * i + k - k * i) (drop (k * i) xs) ≡ row_at k xs i
row_cut k i xs h = let e : k * i + k - k * i ≡ k = omega arith in
    ap (λ m. take m (drop (k * i) xs)) e ∙ part (k * i) k xs (row_ends k i (length xs) h) ∙ ap (map (λ j. get_or xs j 0)) (placed (k * i) k)

-- the vertices at its places
pub at_row : (k i : ℕ) (c rows : List ℕ) → i < length rows / k → map (λ j. get_or c (get_or (take (k * i + k - k * i) (drop (k * i) rows)) j 0) 0) (up_to k) ≡ at c (row_at k rows i)
at_row k i c rows h =
    let row = take (k * i + k - k * i) (drop (k * i) rows) in
    let l : length row ≡ k = length-take-le _ (drop (k * i) rows) (omega (arith, row_ends k i (length rows) h, length-drop (k * i) rows)) ∙ omega arith in
    map-map (λ k. get_or c k 0) (λ j. get_or row j 0) (up_to k)
    ∙ ap (at c) (ap (λ m. map (λ j. get_or row j 0) (up_to m)) (sym l) ∙ listed 0 row ∙ row_cut k i rows h)

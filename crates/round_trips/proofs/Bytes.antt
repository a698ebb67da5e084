-- What lists make are bytes. Assumes nothing.
use mathlib.Core.Path.{◌≡◌, refl, ◌∙◌, ap}
use mathlib.Core.Bool.{Bool, true, false}
use mathlib.Core.List.{List, [], ◌∷◌, ◌++◌}
use Prim.Native.Nat.{ℕ, zero, suc, ◌+◌, ◌*◌, ◌/◌, ◌%◌, ◌-◌, ◌<◌}
use native.Mathlib.Omega.{arith}
use lib.Dec.{ltb}
use lib.IntN.{ℤ}
use lib.ListN.{length, get_or, get_or-append}
use lib.Seq.{get_or-append-add}
use borrow.Author.Tests.{ltb-true, ltb-false}
use Rattle.base.specs.Lists.{spread, up_to}
use Rattle.space.specs.Arrays.{row4}
use Rattle.encoding.specs.File.{u16_bytes, u32_bytes, bits_of, i32_bytes, file_size, header_bytes, tet_bytes, coord_bytes, tets_bytes, file_of}
use Rattle.round_trips.specs.Inverse.{AllBelow}

both : (xs ys : List ℕ) → AllBelow 256 xs → AllBelow 256 ys → AllBelow 256 (xs ++ ys)
both xs ys a b = record { below = λ i. at i (ltb i (length xs)) refl }
  where
    at : (i : ℕ) (t : Bool) → ltb i (length xs) ≡ t → get_or (xs ++ ys) i 0 < 256
    at i true e = rw (get_or-append xs ys 0 i (ltb-true i (length xs) e)) (a.below i)
    at i false e =
        let h = ltb-false i (length xs) e in
        let d : i ≡ length xs + (i - length xs) = omega arith in
        let g : get_or (xs ++ ys) i 0 ≡ get_or ys (i - length xs) 0 = ap (λ k. get_or (xs ++ ys) k 0) d ∙ get_or-append-add xs ys (i - length xs) 0 in
        rw g (b.below (i - length xs))

none : AllBelow 256 []
none = record { below = λ i. omega arith }

all-below : {A : Type 0} (f : A → List ℕ) → ((x : A) → AllBelow 256 (f x)) → (xs : List A) → AllBelow 256 (spread f xs)
unfolding spread
all-below f h [] = none
all-below f h (x ∷ xs) = both (f x) (spread f xs) (h x) (all-below f h xs)

u16-below : (n : ℕ) → AllBelow 256 (u16_bytes n)
unfolding u16_bytes
u16-below n = record { below = at }
  where
    at : (i : ℕ) → get_or (n % 256 ∷ n / 256 % 256 ∷ []) i 0 < 256
    at zero = omega arith
    at (suc zero) = omega arith
    at (suc (suc i)) = omega arith

u32-below : (n : ℕ) → AllBelow 256 (u32_bytes n)
unfolding u32_bytes
u32-below n = both (u16_bytes n) (u16_bytes (n / 65536)) (u16-below n) (u16-below (n / 65536))

i32_below : (z : ℤ) → AllBelow 256 (i32_bytes z)
unfolding i32_bytes
i32_below z = u32-below (bits_of z)

tet-below : (ls ps : List ℕ) (j : ℕ) → AllBelow 256 (tet_bytes ls ps j)
unfolding tet_bytes
tet-below ls ps j = both (spread u16_bytes (row4 ls j)) (u16_bytes (get_or ps j 0)) (all-below u16_bytes u16-below (row4 ls j)) (u16-below (get_or ps j 0))

head_below : (n t : ℕ) → AllBelow 256 (header_bytes n t)
unfolding header_bytes
head_below n t =
    both _ (u32_bytes 0) (both _ (u32_bytes (file_size n t)) (both _ (u32_bytes (24 + 12 * n)) (both _ (u32_bytes t) (both (u32_bytes n) (u32_bytes 24) (u32-below n) (u32-below 24))
    (u32-below t)) (u32-below (24 + 12 * n))) (u32-below (file_size n t))) (u32-below 0)

pub file-below : (cs : List ℤ) (ls ps : List ℕ) → AllBelow 256 (file_of cs ls ps)
unfolding file_of
file-below cs ls ps =
    both _ (tets_bytes ls ps)
    (both (header_bytes (length cs / 3) (length ps)) (coord_bytes cs) (head_below (length cs / 3) (length ps)) (all-below i32_bytes i32_below cs))
    (all-below (tet_bytes ls ps) (tet-below ls ps) (up_to (length ps)))

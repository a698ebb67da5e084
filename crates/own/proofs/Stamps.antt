-- Stamps: one for each corner, so that a tetrahedron with a vertex that has none is not one of the cell's.
-- Assumes nothing.
use mathlib.Core.Path.{◌≡◌, refl, sym, ◌∙◌}
use mathlib.Core.Bool.{Bool, true, false}
use mathlib.Core.List.{List}
use Prim.Native.Nat.{ℕ, ◌+◌, ◌%◌, ◌<◌}
use native.Mathlib.Nat.{mod-lt}
use native.Mathlib.Decide.{dec_lt}
use native.Mathlib.Omega.{arith}
use borrow.Author.Tests.{eqb-true, eqb-false}
use lib.Dec.{eqb}
use lib.ListN.{length, get_or, set, length-set}
use lib.Seq.{get_or-set_same, get_or-set_other}
use Rattle.base.specs.Lists.{all, is_in}
use Rattle.base.proofs.Lists.{fails, all-at, all_from, any_at}
use Rattle.base.proofs.Runs.{place_of}
use Rattle.space.specs.Arrays.{row4}
use Rattle.cells.specs.between.Rows.{fours, owns}
use Rattle.own.specs.between.Stamps.{has_stamp, Stamped}

-- where an element stands
pub place_in : (x : ℕ) (xs : List ℕ) → is_in x xs ≡ true → (p : ℕ) × (p < length xs) × (get_or xs p 0 ≡ x)
place_in x xs e =
    let m = any_at (eqb x) xs e in
    let r = place_of xs m.1 in (r.0, r.1, r.2 ∙ sym (eqb-true x m.0 m.2))

pub stamped_start : {c m : List ℕ} → 512 ≡ length m → Stamped c 0 m
stamped_start e = record { long = e; each = λ i h. absurd (omega arith) }

-- one more takes none away
stamp_stays : (m : List ℕ) (p v : ℕ) → p < length m → has_stamp m v ≡ true → (u : Bool) → eqb (v % 512) p ≡ u → has_stamp (set m p 1) v ≡ true
stamp_stays m p v h t true e = rw (eqb-true (v % 512) p e, get_or-set_same m p 1 0 h)
stamp_stays m p v h t false e = rw (get_or-set_other m p (v % 512) 1 0 (eqb-false (v % 512) p e)) t

module _ {c m : List ℕ} {k : ℕ} (a : Stamped c k m) where
  each_next : (i : ℕ) → Dec (i < k) → i < k + 1 → has_stamp (set m (get_or c k 0 % 512) 1) (get_or c i 0) ≡ true
  each_next i (yes h) g = stamp_stays m (get_or c k 0 % 512) (get_or c i 0) (omega (arith, a.long, mod-lt (get_or c k 0) {m = 512} (omega arith))) (a.each i h) _ refl
  each_next i (no h) g =
      let e : i ≡ k = omega arith in
      rw (e, get_or-set_same m (get_or c k 0 % 512) 1 0 (omega (arith, a.long, mod-lt (get_or c k 0) {m = 512} (omega arith))))

  pub stamped_next : Stamped c (k + 1) (set m (get_or c k 0 % 512) 1)
  stamped_next = record { long = a.long ∙ sym (length-set m (get_or c k 0 % 512) 1); each = λ i. each_next i (dec_lt i k) }

-- a tetrahedron with a vertex that has none is not one of the cell's
pub no-stamp : (ls qs c m : List ℕ) (j : ℕ) → Stamped c (length c) m → all (has_stamp m) (row4 ls j) ≡ false → owns ls (fours qs) c j ≡ false
unfolding owns
no-stamp ls qs c m j a e =
    let f : all (λ v. is_in v c) (row4 ls j) ≡ false = fails _ (all (has_stamp m) (row4 ls j)) (λ t. all_from (has_stamp m) (row4 ls j) (λ v h. let p = place_in v c (all-at (λ v. is_in v c) (row4 ls j) t h) in rw p.2 at (a.each p.0 p.1))) e in
    rw f

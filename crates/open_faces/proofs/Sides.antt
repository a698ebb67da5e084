-- A count that grows by 1 or 0, and the count of a cell's tetrahedra.
-- Assumes nothing.
use Prim.Native.Nat.{ℕ, ◌+◌, ◌/◌, ◌≤◌, ◌<◌}
use mathlib.Core.Path.{◌≡◌, refl, sym, ◌∙◌, ap}
use mathlib.Core.Bool.{Bool, true, false, cond, ◌&&◌}
use mathlib.Core.List.{List}
use native.Mathlib.Omega.{arith}
use lib.ListN.{length}
use Rattle.base.specs.Lists.{count, up_to}
use Rattle.base.proofs.Loop.{CountUp, count_skip, count-more, count-done}
use Rattle.tets_around.specs.Sharing.{has_all}
use Rattle.tets_around.proofs.Around.{count-keep}
use Rattle.cells.specs.between.Rows.{owns_by, own_numbers}
use Rattle.reasons.proofs.First.{numbers}
use Rattle.open_faces.specs.between.Counts.{sides_at}

pub count_add : {A : Type 0} {q : A → Bool} {f : ℕ → A} {n i k r : ℕ} → CountUp q f n i k → i < n → r ≡ cond (q (f i)) 1 0 → CountUp q f n (i + 1) (k + r)
count_add {q = q} {f = f} {n = n} {i = i} {k = k} a h e = rw e (go (q (f i)) refl)
  where
    go : (b : Bool) → q (f i) ≡ b → CountUp q f n (i + 1) (k + cond b 1 0)
    go true t = count-more a h t
    go false t = rw (let z : k + 0 ≡ k = omega arith in z) (count_skip a h t)

-- the cell's tetrahedra that have these vertices
pub count-own : (ls vs qs c : List ℕ) {i k : ℕ} → CountUp (λ e. has_all ls vs e && owns_by ls qs c e) (λ e. e) (length ls / 4) i k → length ls / 4 ≤ i → k ≡ sides_at ls qs c vs
unfolding own_numbers
count-own ls vs qs c a h =
    count-done a h
    ∙ ap (count (λ e. has_all ls vs e && owns_by ls qs c e)) (numbers (up_to (length ls / 4)))
    ∙ sym (count-keep (has_all ls vs) (owns_by ls qs c) (up_to (length ls / 4)))

-- The table by the matrix is the table of the mesh, and what `fill_if` answers. Assumes nothing.
use mathlib.Core.Path.{◌≡◌, sym, ◌∙◌, ap}
use mathlib.Core.Bool.{◌||◌}
use mathlib.Core.List.{List, ◌++◌}
use Prim.Native.Nat.{ℕ, ◌+◌, ◌/◌, ◌≤◌}
use native.Mathlib.Omega.{arith}
use lib.IntN.{ℤ}
use lib.ListN.{length, take}
use Rattle.space.specs.Arrays.{mesh_of}
use Rattle.neighbours.specs.Table.{neighbour_row, first_rows, offsets, table_by, table_of}
use Rattle.neighbours.specs.between.InLabels.{table_in}
use Rattle.neighbours.specs.between.Grown.{Grown, Few}
use Rattle.matrix.specs.between.Matrix.{joined_by, is_joined, Empty, AddsJoins}
use Rattle.neighbours.proofs.Rows.{row_same, length-table}
use Rattle.neighbours.proofs.Growing.{grown-all}
use Rattle.neighbours.proofs.Law.{few}
use Rattle.neighbours.proofs.Tets.{near-table, table-in}

-- what `fill_by` knows once the matrix is made
module _ (l : List ℕ) (n : ℕ) {m : List ℕ} (small : n ≤ 512) {m₀ : List ℕ} (z : Empty m₀) (a : AddsJoins m₀ m (joined_by l (length l / 4))) where
  rows : neighbour_row (is_joined m) n ≡ neighbour_row (joined_by l (length l / 4)) n
  rows = row_same (is_joined m) (joined_by l (length l / 4)) n small (λ x y h. a.at x y h ∙ ap (λ t. t || joined_by l (length l / 4) x y) (z.none x y))

  table_same : table_by (neighbour_row (is_joined m) n) n ≡ table_in l n
  table_same = ap (λ r. table_by r n) rows ∙ near-table l n

  pub size-grown : {e : ℕ} {w₀ w : List ℕ} → Grown 0 e (first_rows (neighbour_row (is_joined m) n) n) w₀ w → n + 1 + e ≡ length (table_in l n)
  size-grown h = omega (arith, h.ends, length-table (neighbour_row (is_joined m) n) n, ap length table_same)

  -- what the two rooms hold is the table
  pub table-grown : {e : ℕ} {s₀ s w₀ w : List ℕ} → Grown 0 (n + 1) (offsets (neighbour_row (is_joined m) n) n) s₀ s → Grown 0 e (first_rows (neighbour_row (is_joined m) n) n) w₀ w
      → take (n + 1) s ++ take e w ≡ table_in l n
  unfolding table_by
  table-grown g h = rw (grown-all g, grown-all h) table_same

  pub rows_short : length l ≤ 8192 → Few (neighbour_row (is_joined m) n)
  rows_short h = rw rows (few l n h)

-- the slice that always suffices
pub enough : (zs : List ℤ) (l ps : List ℕ) (n : ℕ) → n ≤ 512 → length l ≤ 8192 → length (table_of (mesh_of zs l ps) n) ≤ 25089
enough zs l ps n h k =
    rw (table-in l n zs ps, sym (near-table l n)) (omega (arith, length-table (neighbour_row (joined_by l (length l / 4)) n) n, few l n k n))

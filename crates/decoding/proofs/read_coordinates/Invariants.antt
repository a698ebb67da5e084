-- `decoding::read_coordinates` meets its contract. The loop's invariant: the entries passed are filled.
-- Assumes nothing.
use mathlib.Core.List.{List}
use Prim.Native.Nat.{ℕ, ◌*◌, ◌-◌}
use lib.IntN.{ℤ, pos}
use lib.ListN.{length}
use Rattle.layout.specs.Bytes.{i32_at}
use Rattle.decoding.proofs.Fill.{Filled}
use Rattle.decoding.proofs.read_coordinates.Given as goal

-- what stands at k
abbrev pub At : List ℕ → ℕ → ℤ
At part k = i32_at part (4 * k)

abbrev pub invariant-loop-k : goal.invariant-loop-k
invariant-loop-k l = Filled (At l.part) (pos 0) (length l.initial.coords) l.k l.coords

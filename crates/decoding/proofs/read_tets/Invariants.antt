-- `decoding::read_tets` meets its contract. The loop's invariant: the entries passed are filled. Assumes nothing.
use mathlib.Core.List.{List}
use Prim.Native.Nat.{ℕ, ◌+◌, ◌*◌, ◌/◌, ◌%◌, ◌-◌}
use lib.ListN.{length}
use Rattle.layout.specs.Bytes.{u16_at}
use Rattle.decoding.proofs.Fill.{Filled}
use Rattle.decoding.proofs.read_tets.Given as goal

-- what stands at x, of the labels and of the parts
abbrev pub At : List ℕ → ℕ → ℕ
At part x = u16_at part (10 * (x / 4) + 2 * (x % 4))

abbrev pub PartAt : List ℕ → ℕ → ℕ
PartAt part j = u16_at part (10 * j + 8)

abbrev pub invariant-loop-j : goal.invariant-loop-j
invariant-loop-j l = Filled (At l.part) 0 (length l.initial.labels) (4 * l.j) l.labels × Filled (PartAt l.part) 0 (length l.initial.parts) l.j l.parts

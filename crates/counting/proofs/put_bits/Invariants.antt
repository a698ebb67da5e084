-- `counting::put_bits` meets its contract. Assumes nothing.
use mathlib.Core.Path.{◌≡◌}
use Prim.Native.Nat.{ℕ, ◌/◌, ◌%◌, ◌-◌, ◌≤◌, ◌<◌}
use lib.ListN.{length, get_or}
use Rattle.counting.specs.between.Bits.{bit_of}
use Rattle.counting.proofs.put_bits.Given as goal

abbrev pub invariant-loop-x : goal.invariant-loop-x
invariant-loop-x l = (length l.has ≡ length l.initial.has) × ((y : ℕ) → y < l.x → get_or l.has y 0 ≡ bit_of l.labels l.c (get_or l.list (y / 8) 0) (y % 8))

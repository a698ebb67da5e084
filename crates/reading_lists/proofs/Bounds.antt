-- The size of a number without a fault, by its place. Assumes nothing.
use mathlib.Core.Path.{◌≡◌}
use Prim.Native.Nat.{◌≤◌, ℕ}
use native.Mathlib.Omega.{arith}
use Rattle.std.specs.Prelude.{None}
use Rattle.reading_words.specs.declared.Reader.{Reader}
use Rattle.reading_words.specs.declared.Spot.{Spot}
use Rattle.reading_words.specs.declared.Spot.TheVariants.{Coordinate, Label, Part}
use Rattle.reading_words.specs.Steps.{spot_of, most, word_fault}
use Rattle.reading_words.proofs.Faults.{right, most-label}

module _ (r : Reader) (e : word_fault r ≡ None) where
  at_spot : (s : Spot) → spot_of r ≡ s → r.size ≤ most s r.minus
  at_spot s p = rw p at (right r e).small

  pub coordinate_size : (k : ℕ) → spot_of r ≡ Coordinate k → r.size ≤ most (Coordinate 0) r.minus
  coordinate_size k p = at_spot (Coordinate k) p

  pub label_size : (k : ℕ) → spot_of r ≡ Label k → r.size ≤ 65535
  label_size k p = omega (arith, at_spot (Label k) p, most-label r.minus)

  pub part_size : (k : ℕ) → spot_of r ≡ Part k → r.size ≤ 65535
  part_size k p = omega (arith, at_spot (Part k) p, most-label r.minus)

-- What is known of the arrays where none of refusals 4 to 6 applies. Assumes nothing.
use mathlib.Core.Path.{◌≡◌, refl}
use mathlib.Core.List.{List}
use Prim.Native.Nat.{ℕ, ◌*◌, ◌/◌, ◌≤◌}
use lib.IntN.{ℤ}
use lib.ListN.{length}
use borrow.Author.Tests.{not-false}
use Rattle.base.specs.Refusals.{first_of}
use Rattle.base.proofs.Refusals.{Passed, passed}
use Rattle.space.specs.between.Working.{Close}
use Rattle.tets_around.specs.between.Index.{Labelled}
use Rattle.decoding.proofs.Parts.{near-close}
use Rattle.tets.proofs.Labelled.{labelled-of}
use Rattle.arrays.specs.Refusals.{of_numbers}

module _ (zs : List ℤ) (ls : List ℕ) (e : first_of (of_numbers zs ls) ≡ 0) where
  pub numbers-passed : Passed (of_numbers zs ls)
  numbers-passed = passed (of_numbers zs ls) refl e

  pub numbers-close : Close zs
  numbers-close = near-close zs (not-false _ numbers-passed.0)

  pub numbers-labelled : length ls ≡ 4 * (length ls / 4) → length ls ≤ 8192 → Labelled ls (length zs / 3)
  numbers-labelled w h = labelled-of (length zs / 3) ls w h numbers-passed.1.0 numbers-passed.1.1.0

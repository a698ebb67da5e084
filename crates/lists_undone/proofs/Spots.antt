-- The place of a number, by the numbers before it. Assumes nothing.
use mathlib.Core.Path.{◌≡◌, ap, ◌∙◌}
use mathlib.Core.Bool.{Bool}
use Prim.Native.Nat.{ℕ, ◌+◌, ◌*◌, ◌-◌, ◌/◌, ◌%◌, ◌≤◌, ◌<◌}
use native.Mathlib.Omega.{arith}
use borrow.Author.Tests.{lt-ltb, le-ltb, le-leb, lt-leb}
use Rattle.std.specs.Prelude.{None}
use Rattle.reading_words.specs.declared.Form.{Form}
use Rattle.reading_words.specs.declared.Form.TheVariants.{Number}
use Rattle.reading_words.specs.declared.Spot.{Spot}
use Rattle.reading_words.specs.declared.Spot.TheVariants.{Count, Coordinate, Label, Part}
use Rattle.reading_words.specs.Steps.{tet_spot, spot_of, most, word_fault}
use Rattle.lists_undone.proofs.Readers.{in_word}

tet-label : (x j i : ℕ) → x ≡ 5 * j + i → i < 4 → tet_spot x ≡ Label (4 * j + i)
tet-label x j i e h =
    let r : x % 5 ≡ i = omega arith in
    let q : x / 5 ≡ j = omega arith in
    rw (lt-ltb (x % 5) 4 (omega arith), r, q)

tet-part : (x j : ℕ) → x ≡ 5 * j + 4 → tet_spot x ≡ Part j
tet-part x j e =
    let q : x / 5 ≡ j = omega arith in
    rw (le-ltb (x % 5) 4 (omega arith), q)

module _ (l : ℕ) (f : Form) (m : Bool) (v k n t : ℕ) where
  pub spot_count : k < 2 → spot_of (in_word l f m v k n t) ≡ Count
  unfolding spot_of
  spot_count h = rw (lt-ltb k 2 h)

  pub spot_coordinate : (i : ℕ) → k ≡ 2 + i → i < 3 * n → spot_of (in_word l f m v k n t) ≡ Coordinate i
  unfolding spot_of
  spot_coordinate i e h = rw (le-ltb k 2 (omega arith), lt-ltb k (2 + 3 * n) (omega arith)) (ap Coordinate (omega arith))

  -- behind the vertices
  behind_is : (i : ℕ) → k ≡ 2 + 3 * n + i → i < 5 * t → spot_of (in_word l f m v k n t) ≡ tet_spot (k - (2 + 3 * n))
  unfolding spot_of
  behind_is i e h = rw (le-ltb k 2 (omega arith), le-ltb k (2 + 3 * n) (omega arith), lt-ltb k (2 + 3 * n + 5 * t) (omega arith))

  pub spot_label : (j i : ℕ) → k ≡ 2 + 3 * n + (5 * j + i) → j < t → i < 4 → spot_of (in_word l f m v k n t) ≡ Label (4 * j + i)
  spot_label j i e g h = behind_is (5 * j + i) e (omega arith) ∙ tet-label (k - (2 + 3 * n)) j i (omega arith) h

  pub spot_part : (j : ℕ) → k ≡ 2 + 3 * n + (5 * j + 4) → j < t → spot_of (in_word l f m v k n t) ≡ Part j
  spot_part j e g = behind_is (5 * j + 4) e (omega arith) ∙ tet-part (k - (2 + 3 * n)) j (omega arith)

-- a number that is not too large for its place has no fault
pub no_fault : (l : ℕ) (m : Bool) (v k n t : ℕ) (s : Spot) → spot_of (in_word l Number m v k n t) ≡ s → k < 2 + 3 * n + 5 * t → v ≤ most s m → word_fault (in_word l Number m v k n t) ≡ None
unfolding word_fault
no_fault l m v k n t s e b h = rw (lt-leb (2 + 3 * n + 5 * t) k b, e, le-leb v (most s m) h)

-- What a word without a fault is: a number that fits its place. Assumes nothing.
use mathlib.Core.Path.{◌≡◌, refl, sym}
use mathlib.Core.Bool.{Bool, true, false, not, cond, ◌&&◌, false≢true}
use Prim.Native.Nat.{ℕ, ◌≤◌, ◌<◌}
use native.Mathlib.Omega.{arith}
use borrow.Author.Tests.{leb-true, leb-false}
use lib.Dec.{leb}
use Rattle.std.specs.Prelude.{Option, Some, None, is_none}
use Rattle.std.proofs.lemmas.Option.{none-some}
use Rattle.base.proofs.Bools.{and_right}
use Rattle.reading_words.specs.declared.Reader.{Reader}
use Rattle.reading_words.specs.declared.Fault.TheVariants.{TooMany, NoNumber}
use Rattle.reading_words.specs.declared.Spot.{Spot}
use Rattle.reading_words.specs.declared.Spot.TheVariants.{Count, Coordinate, Label, Part, Beyond}
use Rattle.reading_words.specs.Words.{ends_word, is_empty, is_number}
use Rattle.reading_words.specs.Steps.{wanted, spot_of, most, range_fault, word_fault, ends_number}

pub most-word : (s : Spot) (m : Bool) → most s m ≤ 4294967295
most-word Count true = omega arith
most-word Count false = omega arith
most-word (Coordinate k) true = omega arith
most-word (Coordinate k) false = omega arith
most-word (Label k) true = omega arith
most-word (Label k) false = omega arith
most-word (Part k) true = omega arith
most-word (Part k) false = omega arith
most-word Beyond m = omega arith

-- a number that is in its place
pub record Right (r : Reader) : Type 0 where
  pub within : r.count < wanted r
  pub number : is_number r.form ≡ true
  pub small : r.size ≤ most (spot_of r) r.minus

pub right : (r : Reader) → word_fault r ≡ None → Right r
unfolding word_fault
right r e = go (leb (wanted r) r.count) refl (is_number r.form) refl (leb r.size (most (spot_of r) r.minus)) refl e
  where
    go : (x : Bool) → leb (wanted r) r.count ≡ x → (y : Bool) → is_number r.form ≡ y → (z : Bool) → leb r.size (most (spot_of r) r.minus) ≡ z → cond x (Some TooMany) (cond (not y) (Some NoNumber) (cond z None (Some (range_fault (spot_of r))))) ≡ None → Right r
    go true p y q z s e = absurd (none-some TooMany (sym e))
    go false p false q z s e = absurd (none-some NoNumber (sym e))
    go false p true q false s e = absurd (none-some (range_fault (spot_of r)) (sym e))
    go false p true q true s e = record {
      within = leb-false (wanted r) r.count p;
      number = q;
      small = leb-true r.size (most (spot_of r) r.minus) s;
    }

pub right_size : (r : Reader) → word_fault r ≡ None → r.size ≤ 4294967295
right_size r e = omega (arith, (right r e).small, most-word (spot_of r) r.minus)

none_is : {A : Type 0} (o : Option A) → is_none o ≡ true → o ≡ None
none_is None e = refl
none_is (Some x) e = absurd (false≢true e)

-- so its place is one of those wanted, which 64 bits count
pub right_small : (r : Reader) → word_fault r ≡ None → r.count < wanted r
right_small r e = (right r e).within

-- a byte that ends a number does so behind a word without a fault
pub ends_right : (r : Reader) (b : ℕ) → ends_number r b ≡ true → word_fault r ≡ None
unfolding ends_number
ends_right r b e = none_is (word_fault r) (and_right (is_none r.fault && not r.comment && ends_word b && not (is_empty r.form)) (is_none (word_fault r)) e)

-- the greatest vertex number and part
pub most-label : (m : Bool) → cond m 0 65535 ≤ 65535
most-label true = omega arith
most-label false = omega arith

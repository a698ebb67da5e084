-- A reader whose form and fault have names has them behind every byte. Assumes nothing.
use mathlib.Core.Path.{◌≡◌, refl, sym, ap, ◌∙◌}
use mathlib.Core.Bool.{true, not, cond, false≢true}
use Prim.Native.Nat.{ℕ, ◌≤◌}
use native.Mathlib.Omega.{arith}
use lib.Dec.{eqb, leb}
use Rattle.std.specs.Prelude.{Option, Some, None, is_some, is_none}
use Rattle.std.proofs.lemmas.Bool.{cond_both}
use Rattle.reading_words.specs.declared.Reader.{Reader}
use Rattle.reading_words.specs.declared.Form.{Form}
use Rattle.reading_words.specs.declared.Form.TheVariants.{Empty, Minus, Number, Other, Unnamed as NoForm}
use Rattle.reading_words.specs.declared.Fault.{Fault}
use Rattle.reading_words.specs.declared.Fault.TheVariants.{TooFew, TooMany, NoNumber, CountRange, CoordinateRange, EntryRange, Unnamed as NoFault}
use Rattle.reading_words.specs.declared.Spot.{Spot}
use Rattle.reading_words.specs.declared.Spot.TheVariants.{Count, Coordinate, Label, Part, Beyond}
use Rattle.reading_words.specs.Words.{ends_word, is_digit, is_empty, is_number, form_named, formed}
use Rattle.reading_words.specs.Steps.{wanted, spot_of, most, told, fault_named, range_fault, word_fault, grown, counted, faulty, settled, closed, passed, next, met_named, Named, begun}

-- a fault that has a name is told by one of six numbers
pub told-named : (k : Fault) → fault_named k ≡ true → (1 ≤ told k) × (told k ≤ 6)
told-named TooFew e = omega arith
told-named TooMany e = omega arith
told-named NoNumber e = omega arith
told-named CountRange e = omega arith
told-named CoordinateRange e = omega arith
told-named EntryRange e = omega arith
told-named (NoFault k) e = absurd (false≢true e)

abbrev told_by : ℕ → Fault
told_by n = cond (eqb n 1) TooFew (cond (eqb n 2) TooMany (cond (eqb n 3) NoNumber (cond (eqb n 4) CountRange (cond (eqb n 5) CoordinateRange EntryRange))))

by-told : (k : Fault) → fault_named k ≡ true → told_by (told k) ≡ k
by-told TooFew e = refl
by-told TooMany e = refl
by-told NoNumber e = refl
by-told CountRange e = refl
by-told CoordinateRange e = refl
by-told EntryRange e = refl
by-told (NoFault k) e = absurd (false≢true e)

-- and each by another
pub told_apart : (k l : Fault) → fault_named k ≡ true → fault_named l ≡ true → told k ≡ told l → k ≡ l
told_apart k l e f p = sym (by-told k e) ∙ ap told_by p ∙ by-told l f

-- ---- a word

-- whatever form it had
pub formed-named : (f : Form) (b : ℕ) → form_named (formed f b) ≡ true
unfolding formed
formed-named Empty b =
    let P : Form → Type 0 = λ f. form_named f ≡ true in
    cond_both (is_digit b) _ _ P (λ e. refl) (λ e. cond_both (eqb b 45) _ _ P (λ e. refl) (λ e. refl))
formed-named Minus b = cond_both (is_digit b) _ _ (λ f. form_named f ≡ true) (λ e. refl) (λ e. refl)
formed-named Number b = cond_both (is_digit b) _ _ (λ f. form_named f ≡ true) (λ e. refl) (λ e. refl)
formed-named Other b = refl
formed-named (NoForm k) b = refl

range-named : (s : Spot) → fault_named (range_fault s) ≡ true
range-named Count = refl
range-named (Coordinate k) = refl
range-named (Label k) = refl
range-named (Part k) = refl
range-named Beyond = refl

-- and whatever is wrong with the word
pub word-named : (r : Reader) → met_named (word_fault r) ≡ true
unfolding word_fault
word-named r =
    let P : Option Fault → Type 0 = λ o. met_named o ≡ true in
    cond_both (leb (wanted r) r.count) _ _ P (λ e. refl) (λ e.
    cond_both (not (is_number r.form)) _ _ P (λ e. refl) (λ e.
    cond_both (leb r.size (most (spot_of r) r.minus)) _ _ P (λ e. refl) (λ e. range-named (spot_of r))))

-- ---- a reader

module _ {r : Reader} (w : Named r) where
  settled-named : (o : Option Fault) → met_named o ≡ true → Named (settled r o)
  unfolding counted faulty
  settled-named None e = record { form = refl; fault = w.fault }
  settled-named (Some k) e = record { form = w.form; fault = e }

  closed-named : Named (closed r)
  unfolding closed
  closed-named = cond_both (is_empty r.form) _ _ Named (λ e. w) (λ e. settled-named (word_fault r) (word-named r))

  passed-named : (b : ℕ) → Named (passed r b)
  unfolding passed
  passed-named b = record { form = w.form; fault = w.fault }

  grown-named : (b : ℕ) → Named (grown r b)
  unfolding grown
  grown-named b = record { form = formed-named r.form b; fault = w.fault }

pub next-named : (r : Reader) (b : ℕ) → Named r → Named (next r b)
unfolding next
next-named r b w =
    let c = closed-named w in
    cond_both (is_some r.fault) _ _ Named (λ e. w) (λ e.
    cond_both r.comment _ _ Named (λ e. cond_both (eqb b 10) _ _ Named (λ e. passed-named w b) (λ e. w)) (λ e.
    cond_both (ends_word b) _ _ Named
    (λ e. cond_both (is_none (closed r).fault) _ _ Named (λ e. passed-named c b) (λ e. c))
    (λ e. grown-named w b)))

pub begun-named : Named begun
begun-named = record { form = refl; fault = refl }

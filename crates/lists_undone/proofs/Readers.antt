-- A reader in a word: what digits and a sign make of it, and what the text of a number does. Assumes nothing.
use mathlib.Core.Path.{◌≡◌, refl, ◌∙◌, ap}
use mathlib.Core.Bool.{Bool, true, false, ◌||◌, false≢true}
use mathlib.Core.List.{List, [], ◌∷◌}
use Prim.Native.Nat.{ℕ, zero, suc, ◌+◌, ◌*◌, ◌/◌, ◌%◌, ◌^◌, ◌≤◌, ◌<◌}
use native.Mathlib.Nat.{div-add-mod', pow-succ', mod-lt, mul_left_comm, zero-mul}
use native.Mathlib.Omega.{arith}
use borrow.Author.Tests.{ne_eqb, le-ltb, le-leb, lt-leb}
use lib.Dec.{eqb}
use lib.IntN.{ℤ, pos, negsuc, nat_abs}
use Rattle.lines.specs.Text.{last_digits, places_in, decimal}
use Rattle.lines.proofs.Digits.{places-fewest}
use Rattle.writing_lists.specs.Printed.{signed_text}
use Rattle.std.specs.Prelude.{None}
use Rattle.reading_words.specs.declared.Reader.{Reader}
use Rattle.reading_words.specs.declared.Form.{Form}
use Rattle.reading_words.specs.declared.Form.TheVariants.{Empty, Minus, Number, Other, Unnamed}
use Rattle.reading_words.specs.Words.{is_blank, ends_word, is_digit, formed, sized}
use Rattle.reading_words.specs.Steps.{grown, next, ends_number}
use Rattle.reading_lists.specs.Reading.{Reading, reading, read1, read_all}
use Rattle.reading_lists.proofs.Pieces.{read-pieces}

-- in no comment and without a fault
abbrev pub in_word : (l : ℕ) (f : Form) (m : Bool) (v k n t : ℕ) → Reader
in_word l f m v k n t = record { line = l; comment = false; form = f; minus = m; size = v; count = k; n = n; t = t; fault = None }

-- no word has begun
abbrev pub at_rest : (l k n t : ℕ) → Reader
at_rest l k n t = in_word l Empty false 0 k n t

-- a digit more makes it a number, or leaves it one
abbrev takes_digits : Form → Bool
takes_digits Empty = true
takes_digits Minus = true
takes_digits Number = true
takes_digits Other = false
takes_digits (Unnamed i) = false

-- ---- a digit

module _ (d : ℕ) (h : d < 10) where
  digit-ends : ends_word (48 + d) ≡ false
  unfolding ends_word is_blank
  digit-ends = rw (ne_eqb (48 + d) 32 (λ e. omega arith), le-leb 9 (48 + d) (omega arith), lt-leb (48 + d) 13 (omega arith), ne_eqb (48 + d) 35 (λ e. omega arith))

  digit-is : is_digit (48 + d) ≡ true
  unfolding is_digit
  digit-is = rw (le-leb 48 (48 + d) (omega arith), le-leb (48 + d) 57 (omega arith))

  digit-forms : (f : Form) → takes_digits f ≡ true → formed f (48 + d) ≡ Number
  unfolding formed
  digit-forms Empty g = rw digit-is
  digit-forms Minus g = rw digit-is
  digit-forms Number g = rw digit-is
  digit-forms Other g = absurd (false≢true g)
  digit-forms (Unnamed i) g = absurd (false≢true g)

  digit_signs : (m : Bool) → (m || eqb (48 + d) 45) ≡ m
  digit_signs true = refl
  digit_signs false = ne_eqb (48 + d) 45 (λ e. omega arith)

  digit_sizes : (v : ℕ) → v ≤ 429496729 → sized v (48 + d) ≡ 10 * v + d
  unfolding sized
  digit_sizes v g = rw (digit-is, le-ltb 429496729 v g) (omega arith)

-- ---- digits

-- the word's form behind j digits
abbrev after_digits : ℕ → Form → Form
after_digits zero f = f
after_digits (suc j) f = Number

after-form : (j : ℕ) (f : Form) → takes_digits f ≡ true → takes_digits (after_digits j f) ≡ true
after-form zero f h = h
after-form (suc j) f h = refl

after-some : (j : ℕ) (f : Form) → 1 ≤ j → after_digits j f ≡ Number
after-some zero f h = absurd (omega arith)
after-some (suc j) f h = refl

scaled : (v j : ℕ) → v * 10 ^ suc j ≡ 10 * (v * 10 ^ j)
scaled v j = ap (λ p. v * p) (pow-succ' 10 j) ∙ mul_left_comm v 10 (10 ^ j)

module _ (l k n t : ℕ) (cs : List ℤ) (ls ps : List ℕ) where
  abbrev pub at : Form → Bool → ℕ → Reading
  at f m v = reading (in_word l f m v k n t) cs ls ps

  grows : (f : Form) (m : Bool) (v b : ℕ) → ends_word b ≡ false → read1 b (at f m v) ≡ at (formed f b) (m || eqb b 45) (sized v b)
  unfolding read1 next ends_number grown
  grows f m v b e = rw e

  digit_grows : (f : Form) (m : Bool) (v d : ℕ) → takes_digits f ≡ true → d < 10 → v ≤ 429496729 → read1 (48 + d) (at f m v) ≡ at Number m (10 * v + d)
  digit_grows f m v d g h s =
      grows f m v (48 + d) (digit-ends d h) ∙ rw (digit-forms d h f g, digit_signs d h m, digit_sizes d h v s)

  digits_read : (j : ℕ) (f : Form) (m : Bool) (v x : ℕ) → takes_digits f ≡ true → x < 10 ^ j → v * 10 ^ j + x < 4294967296 → read_all (last_digits j x) (at f m v) ≡ at (after_digits j f) m (v * 10 ^ j + x)
  digits_read zero f m v x g h s = ap (at f m) (omega arith)
  digits_read (suc j) f m v x g h s =
      let d : x / 10 * 10 + x % 10 ≡ x = div-add-mod' x 10 in
      let r : x % 10 < 10 = mod-lt x (omega arith) in
      let e : 10 ^ suc j ≡ 10 * 10 ^ j = pow-succ' 10 j in
      let w : v * 10 ^ suc j ≡ 10 * (v * 10 ^ j) = scaled v j in
      let y = v * 10 ^ j + x / 10 in
      read-pieces (last_digits j (x / 10)) ((48 + x % 10) ∷ []) (at f m v)
      ∙ ap (read1 (48 + x % 10)) (digits_read j f m v (x / 10) g (omega arith) (omega arith))
      ∙ digit_grows (after_digits j f) m y (x % 10) (after-form j f g) r (omega arith)
      ∙ ap (at Number m) (omega arith)

  decimal-read : (f : Form) (m : Bool) (x : ℕ) → takes_digits f ≡ true → x < 4294967296 → read_all (decimal x) (at f m 0) ≡ at Number m x
  unfolding decimal
  decimal-read f m x g h =
      let p = places_in 19 x in
      let w = places-fewest 19 x (omega arith) in
      let z : 0 * 10 ^ p ≡ 0 = zero-mul (10 ^ p) in
      digits_read p f m 0 x g w.1 (omega arith)
      ∙ ap (λ a. at a m (0 * 10 ^ p + x)) (after-some p f w.0)
      ∙ ap (at Number m) (omega arith)

-- ---- a number with its sign

abbrev pub below0 : ℤ → Bool
below0 (pos n) = false
below0 (negsuc k) = true

module _ (l k n t : ℕ) (cs : List ℤ) (ls ps : List ℕ) where
  sign_read : read1 45 (at l k n t cs ls ps Empty false 0) ≡ at l k n t cs ls ps Minus true 0
  unfolding read1 next ends_number grown ends_word is_blank formed sized is_digit
  sign_read = refl

  pub signed_read : (z : ℤ) → nat_abs z < 4294967296 → read_all (signed_text z) (at l k n t cs ls ps Empty false 0) ≡ at l k n t cs ls ps Number (below0 z) (nat_abs z)
  signed_read (pos x) h = decimal-read l k n t cs ls ps Empty false x refl h
  signed_read (negsuc x) h =
      ap (read_all (decimal (suc x))) sign_read ∙ decimal-read l k n t cs ls ps Minus true (suc x) refl h

-- The words of a text, byte by byte: numbers apart by blanks or line ends, and a comment from # to the end of its line.
-- Assumes nothing.
use Rattle.std.specs.Prelude.{ℕ, ◌+◌, ◌-◌, ◌*◌, Bool, true, false, cond, ◌&&◌, ◌||◌, eqb, leb, ltb}
use Rattle.reading_words.specs.declared.Form.{Form}
use Rattle.reading_words.specs.declared.Form.TheVariants.{Empty, Minus, Number, Other, Unnamed}

-- tab, line end, vertical tab, form feed, carriage return or space
unfoldable pub is_blank : ℕ → Bool
is_blank b = eqb b 32 || (leb 9 b && leb b 13)

-- a word ends at a blank, and at the # of a comment
unfoldable pub ends_word : ℕ → Bool
ends_word b = is_blank b || eqb b 35

unfoldable pub is_digit : ℕ → Bool
is_digit b = leb 48 b && leb b 57

-- what a word is with a byte more: none yet, a minus sign alone, a number, or no number; a form without a name, which a
-- reader that a caller made may have, is no number
unfoldable pub formed : Form → ℕ → Form
formed Empty b = cond (is_digit b) Number (cond (eqb b 45) Minus Other)
formed Minus b = cond (is_digit b) Number Other
formed Number b = cond (is_digit b) Number Other
formed Other b = Other
formed (Unnamed k) b = Other

-- no word has begun
abbrev pub is_empty : Form → Bool
is_empty Empty = true
is_empty Minus = false
is_empty Number = false
is_empty Other = false
is_empty (Unnamed k) = false

abbrev pub is_number : Form → Bool
is_number Empty = false
is_number Minus = false
is_number Number = true
is_number Other = false
is_number (Unnamed k) = false

-- it has a name
abbrev pub form_named : Form → Bool
form_named Empty = true
form_named Minus = true
form_named Number = true
form_named Other = true
form_named (Unnamed k) = false

-- what its digits say with a byte more; past 32 bits it does not matter by how much
unfoldable pub sized : ℕ → ℕ → ℕ
sized size b = cond (is_digit b) (cond (ltb 429496729 size) 4294967296 (10 * size + (b - 48))) size

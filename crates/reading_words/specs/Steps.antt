-- Lists as plain text: first the numbers of vertices and of tetrahedra, n and t; then three coordinates a vertex; then
-- four vertex numbers and a part a tetrahedron. A text is read byte by byte, and its first fault ends it.
-- Assumes nothing.
use Rattle.std.specs.Prelude.{ℕ, ◌+◌, ◌*◌, ◌-◌, ◌/◌, ◌%◌, ◌≡◌, min, Bool, true, false, not, cond, ◌&&◌, ◌||◌, eqb, leb, ltb, Option, Some, None, is_some, is_none}
use Rattle.reading_words.specs.declared.Reader.{Reader}
use Rattle.reading_words.specs.declared.Form.TheVariants.{Empty}
use Rattle.reading_words.specs.declared.Fault.{Fault}
use Rattle.reading_words.specs.declared.Fault.TheVariants.{TooFew, TooMany, NoNumber, CountRange, CoordinateRange, EntryRange, Unnamed}
use Rattle.reading_words.specs.declared.Spot.{Spot}
use Rattle.reading_words.specs.declared.Spot.TheVariants.{Count, Coordinate, Label, Part, Beyond}
use Rattle.reading_words.specs.Words.{ends_word, is_empty, is_number, form_named, formed, sized}

-- ---- the places of the numbers

-- how many numbers there are
abbrev pub wanted : Reader → ℕ
wanted r = 2 + 3 * r.n + 5 * r.t

-- of number k behind the vertices
abbrev pub tet_spot : ℕ → Spot
tet_spot k = cond (ltb (k % 5) 4) (Label (4 * (k / 5) + k % 5)) (Part (k / 5))

-- of the number that has `count` before it
unfoldable pub spot_of : Reader → Spot
spot_of r =
    cond (ltb r.count 2) Count
    (cond (ltb r.count (2 + 3 * r.n)) (Coordinate (r.count - 2))
    (cond (ltb r.count (wanted r)) (tet_spot (r.count - (2 + 3 * r.n))) Beyond))

-- the greatest size that a number may have there, below 0 or not: 32 bits, signed for a coordinate, or 16 bits
abbrev pub most : Spot → Bool → ℕ
most Count minus = cond minus 0 4294967295
most (Coordinate k) minus = cond minus 2147483648 2147483647
most (Label k) minus = cond minus 0 65535
most (Part k) minus = cond minus 0 65535
most Beyond minus = 0

-- ---- faults

-- the number that a person is told; that of a fault without a name, which a reader that a caller made may have, as it is
abbrev pub told : Fault → ℕ
told TooFew = 1
told TooMany = 2
told NoNumber = 3
told CountRange = 4
told CoordinateRange = 5
told EntryRange = 6
told (Unnamed k) = k

-- it is one of the six that have a name
abbrev pub fault_named : Fault → Bool
fault_named TooFew = true
fault_named TooMany = true
fault_named NoNumber = true
fault_named CountRange = true
fault_named CoordinateRange = true
fault_named EntryRange = true
fault_named (Unnamed k) = false

-- of a number that is out of range there
abbrev pub range_fault : Spot → Fault
range_fault Count = CountRange
range_fault (Coordinate k) = CoordinateRange
range_fault (Label k) = EntryRange
range_fault (Part k) = EntryRange
range_fault Beyond = TooMany

-- of the word that has been read, and none where it is a number in its place
unfoldable pub word_fault : Reader → Option Fault
word_fault r =
    cond (leb (wanted r) r.count) (Some TooMany)
    (cond (not (is_number r.form)) (Some NoNumber)
    (cond (leb r.size (most (spot_of r) r.minus)) None (Some (range_fault (spot_of r)))))

-- ---- a byte more

-- the word with it
unfoldable pub grown : Reader → ℕ → Reader
grown r b = record {
  line = r.line;
  comment = r.comment;
  form = formed r.form b;
  minus = r.minus || eqb b 45;
  size = sized r.size b;
  count = r.count;
  n = r.n;
  t = r.t;
  fault = r.fault;
}

-- behind the word, which is a number; the first two numbers are n and t
unfoldable pub counted : Reader → Reader
counted r = record {
  line = r.line;
  comment = r.comment;
  form = Empty;
  minus = false;
  size = 0;
  count = r.count + 1;
  n = cond (eqb r.count 0) r.size r.n;
  t = cond (eqb r.count 1) r.size r.t;
  fault = r.fault;
}

-- at fault
unfoldable pub faulty : Reader → Fault → Reader
faulty r k = record {
  line = r.line;
  comment = r.comment;
  form = r.form;
  minus = r.minus;
  size = r.size;
  count = r.count;
  n = r.n;
  t = r.t;
  fault = Some k;
}

-- behind a word of this fault
abbrev pub settled : Reader → Option Fault → Reader
settled r None = counted r
settled r (Some k) = faulty r k

-- behind the word, if one has begun
unfoldable pub closed : Reader → Reader
closed r = cond (is_empty r.form) r (settled r (word_fault r))

-- the line behind a byte; the last number of 64 bits stays
unfoldable pub line_behind : ℕ → ℕ → ℕ
line_behind line b = cond (eqb b 10) (min (line + 1) 18446744073709551615) line

-- whether what follows a byte that stands in no word stands in a comment: a line end ends one, a # begins one
unfoldable pub comment_behind : Bool → ℕ → Bool
comment_behind comment b = cond (eqb b 10) false (comment || eqb b 35)

-- behind a byte that stands in no word
unfoldable pub passed : Reader → ℕ → Reader
passed r b = record {
  line = line_behind r.line b;
  comment = comment_behind r.comment b;
  form = r.form;
  minus = r.minus;
  size = r.size;
  count = r.count;
  n = r.n;
  t = r.t;
  fault = r.fault;
}

-- the first fault stays, and so does a place in a comment until its line ends
unfoldable pub next : Reader → ℕ → Reader
next r b =
    cond (is_some r.fault) r
    (cond r.comment (cond (eqb b 10) (passed r b) r)
    (cond (ends_word b) (cond (is_none (closed r).fault) (passed (closed r) b) (closed r)) (grown r b)))

-- the byte ends a word that is a number in its place
unfoldable pub ends_number : Reader → ℕ → Bool
ends_number r b =
    is_none r.fault && not r.comment && ends_word b && not (is_empty r.form) && is_none (word_fault r)

-- at the beginning of a text
abbrev pub begun : Reader
begun = record { line = 1; comment = false; form = Empty; minus = false; size = 0; count = 0; n = 0; t = 0; fault = None }

-- ---- names

-- the fault that was met, if one was, has a name
abbrev pub met_named : Option Fault → Bool
met_named None = true
met_named (Some k) = fault_named k

-- a reader's form has a name, and so has its fault, if one was met
pub record Named (r : Reader) : Type 0 where
  pub form : form_named r.form ≡ true
  pub fault : met_named r.fault ≡ true

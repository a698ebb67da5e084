-- A text read into lent lists, and what it says.
-- Assumes nothing.
use Rattle.std.specs.Prelude.{ℕ, Bool, true, cond, List, [], ◌∷◌, ◌++◌, ltb, ℤ, pos, neg_ℤ, set, Option, Some, None, Result, Ok, Err}
use Rattle.reading_words.specs.declared.Reader.{Reader}
use Rattle.reading_words.specs.declared.Fault.{Fault}
use Rattle.reading_words.specs.declared.Fault.TheVariants.{TooFew}
use Rattle.reading_words.specs.declared.Spot.{Spot}
use Rattle.reading_words.specs.declared.Spot.TheVariants.{Count, Coordinate, Label, Part, Beyond}
use Rattle.reading_words.specs.Steps.{wanted, spot_of, fault_named, next, ends_number}
use Rattle.reading_lists.specs.declared.Sizes.{Sizes}
use Rattle.reading_lists.specs.declared.Wrong.{Wrong}

-- ---- the lists

abbrev pub number_of : Reader → ℤ
number_of r = cond r.minus (neg_ℤ (pos r.size)) (pos r.size)

-- a list with the number at its place, where it belongs to this list; what has no room is left out
abbrev pub coords_with : Spot → ℤ → List ℤ → List ℤ
coords_with (Coordinate k) z cs = set cs k z
coords_with Count z cs = cs
coords_with (Label k) z cs = cs
coords_with (Part k) z cs = cs
coords_with Beyond z cs = cs

abbrev pub labels_with : Spot → ℕ → List ℕ → List ℕ
labels_with (Label k) x ls = set ls k x
labels_with Count x ls = ls
labels_with (Coordinate k) x ls = ls
labels_with (Part k) x ls = ls
labels_with Beyond x ls = ls

abbrev pub parts_with : Spot → ℕ → List ℕ → List ℕ
parts_with (Part k) x ps = set ps k x
parts_with Count x ps = ps
parts_with (Coordinate k) x ps = ps
parts_with (Label k) x ps = ps
parts_with Beyond x ps = ps

-- how far the text is read, and what the lent lists hold
pub record Reading : Type 0 where
  pub reader : Reader
  pub coordinates : List ℤ
  pub labels : List ℕ
  pub parts : List ℕ

abbrev pub reading : Reader → List ℤ → List ℕ → List ℕ → Reading
reading r cs ls ps = record { reader = r; coordinates = cs; labels = ls; parts = ps }

-- with a byte more
unfoldable pub read1 : ℕ → Reading → Reading
read1 b s = record {
  reader = next s.reader b;
  coordinates = cond (ends_number s.reader b) (coords_with (spot_of s.reader) (number_of s.reader) s.coordinates) s.coordinates;
  labels = cond (ends_number s.reader b) (labels_with (spot_of s.reader) s.reader.size s.labels) s.labels;
  parts = cond (ends_number s.reader b) (parts_with (spot_of s.reader) s.reader.size s.parts) s.parts;
}

-- with all these bytes
abbrev pub read_all : List ℕ → Reading → Reading
read_all [] s = s
read_all (b ∷ bs) s = read_all bs (read1 b s)

-- a whole text: its last word may stand without a line end
abbrev pub read_text : List ℕ → Reading → Reading
read_text x s = read_all (x ++ 10 ∷ []) s

-- ---- what a text says

abbrev pub lists : (n t : ℕ) → Result Sizes Wrong
lists n t = Ok (record { n = n; t = t })

abbrev pub wrong : (fault : Fault) → (line before wanted : ℕ) → Result Sizes Wrong
wrong k l b w = Err (record { fault = k; line = l; before = b; wanted = w })

-- with this fault, or none
abbrev pub said_at : Reader → Option Fault → Result Sizes Wrong
said_at r (Some k) = wrong k r.line r.count (wanted r)
said_at r None = cond (ltb r.count (wanted r)) (wrong TooFew r.line r.count (wanted r)) (lists r.n r.t)

-- what a reader behind the last line end tells
unfoldable pub said_by : Reader → Result Sizes Wrong
said_by r = said_at r r.fault

-- wrong, if it is, by a fault that has a name
abbrev pub outcome_named : Result Sizes Wrong → Bool
outcome_named (Ok s) = true
outcome_named (Err w) = fault_named w.fault

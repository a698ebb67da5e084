-- Texts and what they say, in one table under one claim: each fault, and lists with all that a text may have. Each row
-- has its text above it.
-- Assumes nothing.
use Rattle.std.specs.Prelude.{ℕ, ◌≡◌, List, [], ◌∷◌, ◌++◌, map, ℤ, pos, negsuc, length, replicate, Result}
use Rattle.reading_lists.specs.declared.Sizes.{Sizes}
use Rattle.reading_lists.specs.declared.Wrong.{Wrong}
use Rattle.reading_words.specs.declared.Fault.TheVariants.{TooFew, TooMany, NoNumber, CountRange, CoordinateRange, EntryRange}
use Rattle.reading_words.specs.Steps.{begun}
use Rattle.reading_lists.specs.Reading.{Reading, reading, read_text, lists, wrong, said_by}

-- what is said, and what the lent lists hold
pub record TextOutcome : Type 0 where
  pub said : Result Sizes Wrong
  pub coordinates : List ℤ
  pub labels : List ℕ
  pub parts : List ℕ

pub record TextRow : Type 0 where
  pub text : List ℕ
  pub outcome : TextOutcome

abbrev pub text_row : List ℕ → Result Sizes Wrong → List ℤ → List ℕ → List ℕ → TextRow
text_row xs a cs ls ps = record { text = xs; outcome = record { said = a; coordinates = cs; labels = ls; parts = ps } }

-- lists of as many entries as the outcome's, each 9
abbrev lent : TextOutcome → Reading
lent o = reading begun (replicate (length o.coordinates) (pos 9)) (replicate (length o.labels) 9) (replicate (length o.parts) 9)

-- the text, read into such lists
unfoldable pub outcome_of : TextRow → TextOutcome
outcome_of r =
    let s = read_text r.text (lent r.outcome) in
    record { said = said_by s.reader; coordinates = s.coordinates; labels = s.labels; parts = s.parts }

-- a text that reads into no lists
abbrev pub bare : List ℕ → Result Sizes Wrong → TextRow
bare xs a = text_row xs a [] [] []

abbrev pub texts : List TextRow
texts =
    -- ---- nothing, and one number too few; a comment is none
    bare [] (wrong TooFew 2 0 2) ∷
    -- 1 0\n2 3 # 4
    bare (49 ∷ 32 ∷ 48 ∷ 10 ∷ 50 ∷ 32 ∷ 51 ∷ 32 ∷ 35 ∷ 32 ∷ 52 ∷ []) (wrong TooFew 3 4 5) ∷
    -- ---- one too many, whatever it is
    -- 0 0\n7
    bare (48 ∷ 32 ∷ 48 ∷ 10 ∷ 55 ∷ []) (wrong TooMany 2 2 2) ∷
    -- 0 0 x
    bare (48 ∷ 32 ∷ 48 ∷ 32 ∷ 120 ∷ []) (wrong TooMany 1 2 2) ∷
    -- ---- no number: a sign alone, one in a number, a letter behind digits; the first fault is told
    -- -
    bare (45 ∷ []) (wrong NoNumber 1 0 2) ∷
    -- 0 1-
    bare (48 ∷ 32 ∷ 49 ∷ 45 ∷ []) (wrong NoNumber 1 1 2) ∷
    -- --1
    bare (45 ∷ 45 ∷ 49 ∷ []) (wrong NoNumber 1 0 2) ∷
    -- 0\n0x 65536
    bare (48 ∷ 10 ∷ 48 ∷ 120 ∷ 32 ∷ 54 ∷ 53 ∷ 53 ∷ 51 ∷ 54 ∷ []) (wrong NoNumber 2 1 2) ∷
    -- ---- a count of 32 bits and one more; one below 0
    -- 4294967296
    bare (52 ∷ 50 ∷ 57 ∷ 52 ∷ 57 ∷ 54 ∷ 55 ∷ 50 ∷ 57 ∷ 54 ∷ []) (wrong CountRange 1 0 2) ∷
    -- 0 -1
    bare (48 ∷ 32 ∷ 45 ∷ 49 ∷ []) (wrong CountRange 1 1 2) ∷
    -- ---- a coordinate past either end
    -- 1 0 2147483648
    bare (49 ∷ 32 ∷ 48 ∷ 32 ∷ 50 ∷ 49 ∷ 52 ∷ 55 ∷ 52 ∷ 56 ∷ 51 ∷ 54 ∷ 52 ∷ 56 ∷ []) (wrong CoordinateRange 1 2 5) ∷
    -- 1 0 -2147483649
    bare (49 ∷ 32 ∷ 48 ∷ 32 ∷ 45 ∷ 50 ∷ 49 ∷ 52 ∷ 55 ∷ 52 ∷ 56 ∷ 51 ∷ 54 ∷ 52 ∷ 57 ∷ []) (wrong CoordinateRange 1 2 5) ∷
    -- ---- a vertex number past 16 bits, a part below 0
    -- 0 1 65536
    bare (48 ∷ 32 ∷ 49 ∷ 32 ∷ 54 ∷ 53 ∷ 53 ∷ 51 ∷ 54 ∷ []) (wrong EntryRange 1 2 7) ∷
    -- 0 1 0 0 0 0 -1
    bare (48 ∷ 32 ∷ 49 ∷ 32 ∷ 48 ∷ 32 ∷ 48 ∷ 32 ∷ 48 ∷ 32 ∷ 48 ∷ 32 ∷ 45 ∷ 49 ∷ []) (wrong EntryRange 1 6 7) ∷
    -- ---- the empty lists; 0 with a sign, zeros in front, a comment at once behind a number
    -- -0 000#
    bare (45 ∷ 48 ∷ 32 ∷ 48 ∷ 48 ∷ 48 ∷ 35 ∷ []) (lists 0 0) ∷
    -- ---- one vertex and one tetrahedron: a comment, a line end of two characters, a tab, the ends of the ranges
    -- 1 1 # x\r\n-2147483648 2147483647\t-7\r\n0 1 65535 2 3
    text_row
    ((49 ∷ 32 ∷ 49 ∷ 32 ∷ 35 ∷ 32 ∷ 120 ∷ 13 ∷ 10 ∷ [])
    ++ (45 ∷ 50 ∷ 49 ∷ 52 ∷ 55 ∷ 52 ∷ 56 ∷ 51 ∷ 54 ∷ 52 ∷ 56 ∷ 32 ∷ 50 ∷ 49 ∷ 52 ∷ 55 ∷ 52 ∷ 56 ∷ 51 ∷ 54 ∷ 52 ∷ 55 ∷ 9 ∷ 45 ∷ 55 ∷ 13 ∷ 10 ∷ [])
    ++ (48 ∷ 32 ∷ 49 ∷ 32 ∷ 54 ∷ 53 ∷ 53 ∷ 51 ∷ 53 ∷ 32 ∷ 50 ∷ 32 ∷ 51 ∷ []))
    (lists 1 1)
    (negsuc 2147483647 ∷ pos 2147483647 ∷ negsuc 6 ∷ [])
    (0 ∷ 1 ∷ 65535 ∷ 2 ∷ [])
    (3 ∷ []) ∷
    -- ---- what has no room is left out
    -- 1 0 5 6 7
    text_row (49 ∷ 32 ∷ 48 ∷ 32 ∷ 53 ∷ 32 ∷ 54 ∷ 32 ∷ 55 ∷ []) (lists 1 0) (pos 5 ∷ []) [] [] ∷
    []

-- each row's outcome is what its text gives
abbrev pub TextsRead : Type 0
TextsRead = map outcome_of texts ≡ map (λ r. r.outcome) texts

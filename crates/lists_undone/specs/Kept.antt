-- What lent lists that begin as zeros keep of the lists that a text says: the fronts, whatever lengths they have. Of
-- such lists `packing_front` promises the answer to the whole ones.
-- Assumes nothing.
use Rattle.std.specs.Prelude.{ℕ, ◌*◌, ◌≡◌, List, ℤ, pos, length, replicate}
use Rattle.reading_words.specs.declared.Reader.{Reader}
use Rattle.reading_words.specs.Steps.{begun}
use Rattle.reading_lists.specs.Reading.{Reading, reading, read_all, read_text}
use Rattle.packing_front.specs.Front.{IsFront, Fronts}

-- a text read from its beginning into lists of c coordinates, l vertex numbers and p parts, each 0
abbrev pub read_into : List ℕ → ℕ → ℕ → ℕ → Reading
read_into x c l p = read_text x (reading begun (replicate c (pos 0)) (replicate l 0) (replicate p 0))

-- the lists that a text of n vertices and t tetrahedra says, each number at its place
abbrev pub lists_said : List ℕ → ℕ → ℕ → Reading
lists_said x n t = read_into x (3 * n) (4 * t) t

-- both have read as far, and the lists of a hold the fronts of those of b
pub record FrontOf (a b : Reading) : Type 0 where
  pub reader : a.reader ≡ b.reader
  pub coordinates : IsFront a.coordinates b.coordinates
  pub labels : IsFront a.labels b.labels
  pub parts : IsFront a.parts b.parts

-- the lists of both have the same lengths
pub record AsLong (a b : Reading) : Type 0 where
  pub coordinates : length a.coordinates ≡ length b.coordinates
  pub labels : length a.labels ≡ length b.labels
  pub parts : length a.parts ≡ length b.parts

-- what a text left in lists of any lengths, beside the lists that it says
pub record KeptOf (x : List ℕ) (n t c l p : ℕ) : Type 0 where
  pub reader : (read_into x c l p).reader ≡ (lists_said x n t).reader
  pub coordinates : length (read_into x c l p).coordinates ≡ c
  pub labels : length (read_into x c l p).labels ≡ l
  pub parts : length (read_into x c l p).parts ≡ p
  pub fronts : Fronts n t (read_into x c l p).coordinates (read_into x c l p).labels (read_into x c l p).parts
      (lists_said x n t).coordinates (lists_said x n t).labels (lists_said x n t).parts

pub record TextsKept : Type 0 where
  -- reading a text keeps the lengths of the lists
  pub lengths : (x : List ℕ) (s : Reading) → AsLong (read_all x s) s
  -- and keeps fronts
  pub fronts : (x : List ℕ) (r : Reader) (cs₀ cs₁ : List ℤ) (ls₀ ls₁ ps₀ ps₁ : List ℕ)
      → IsFront cs₀ cs₁ → IsFront ls₀ ls₁ → IsFront ps₀ ps₁
      → FrontOf (read_all x (reading r cs₀ ls₀ ps₀)) (read_all x (reading r cs₁ ls₁ ps₁))
  -- so lists of any lengths hold the fronts of those that the text says
  pub said : (x : List ℕ) (n t c l p : ℕ) → KeptOf x n t c l p

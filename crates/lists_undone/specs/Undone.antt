-- Reading the text of lists gives the lists.
-- Assumes nothing.
use Rattle.std.specs.Prelude.{ℕ, ◌*◌, ◌≤◌, ◌<◌, ◌≡◌, List, ◌++◌, ℤ, pos, length, get_or, drop}
use Rattle.std.specs.Int.Signed.{mag}
use Rattle.writing_lists.specs.Printed.{text_of}
use Rattle.reading_words.specs.Steps.{begun}
use Rattle.reading_lists.specs.Reading.{Reading, reading, read_all, read_text, lists, said_by}

-- lists of n vertices and t tetrahedra, each entry of which fits its type
pub record Typed (cs : List ℤ) (ls ps : List ℕ) (n t : ℕ) : Type 0 where
  pub coordinates : length cs ≡ 3 * n
  pub labels : length ls ≡ 4 * t
  pub parts : length ps ≡ t
  pub few_vertices : n < 4294967296
  pub few_tets : t < 4294967296
  pub words : (i : ℕ) → mag (get_or cs i (pos 0)) < 2147483648
  pub numbers : (i : ℕ) → get_or ls i 0 < 65536
  pub part_numbers : (i : ℕ) → get_or ps i 0 < 65536

-- lent lists that are long enough hold the lists, and behind them what they held
pub record Held (cs cs₀ : List ℤ) (ls ls₀ ps ps₀ : List ℕ) (n t : ℕ) (s : Reading) : Type 0 where
  pub said : said_by s.reader ≡ lists n t
  pub coordinates : s.coordinates ≡ cs ++ drop (length cs) cs₀
  pub labels : s.labels ≡ ls ++ drop (length ls) ls₀
  pub parts : s.parts ≡ ps ++ drop (length ps) ps₀

abbrev pub Undone : Type 0
Undone =
    (cs cs₀ : List ℤ) (ls ls₀ ps ps₀ : List ℕ) (n t : ℕ)
    → Typed cs ls ps n t
    → length cs ≤ length cs₀ → length ls ≤ length ls₀ → length ps ≤ length ps₀
    → Held cs cs₀ ls ls₀ ps ps₀ n t (read_text (text_of cs ls ps) (reading begun cs₀ ls₀ ps₀))

-- a text may come in pieces
abbrev pub InPieces : Type 0
InPieces = (a b : List ℕ) (s : Reading) → read_all (a ++ b) s ≡ read_all b (read_all a s)

pub record Texts : Type 0 where
  pub pieces : InPieces
  pub undone : Undone

-- A text read in pieces, one behind another. Assumes nothing.
use mathlib.Core.Path.{◌≡◌, refl}
use mathlib.Core.List.{List, [], ◌∷◌, ◌++◌}
use Prim.Native.Nat.{ℕ}
use Rattle.reading_lists.specs.Reading.{Reading, read1, read_all}

pub read-pieces : (a b : List ℕ) (s : Reading) → read_all (a ++ b) s ≡ read_all b (read_all a s)
read-pieces [] b s = refl
read-pieces (x ∷ xs) b s = read-pieces xs b (read1 x s)

-- Lent lists that hold the front of other lists. cs are coordinates, ls vertex numbers and ps parts; cs₀, ls₀ and ps₀
-- are lent.
-- Assumes nothing.
use Rattle.std.specs.Prelude.{ℕ, ◌*◌, ◌≡◌, List, ℤ, length, take}

-- a lent list holds the front of xs: all of it, or as much as it has room for
abbrev pub IsFront : {A : Type 0} → (lent xs : List A) → Type 0
IsFront lent xs = take (length xs) lent ≡ take (length lent) xs

-- the lent lists hold the fronts of lists of n vertices and t tetrahedra
pub record Fronts (n t : ℕ) (cs₀ : List ℤ) (ls₀ ps₀ : List ℕ) (cs : List ℤ) (ls ps : List ℕ) : Type 0 where
  pub threes : length cs ≡ 3 * n
  pub fours : length ls ≡ 4 * t
  pub ones : length ps ≡ t
  pub coordinates : IsFront cs₀ cs
  pub labels : IsFront ls₀ ls
  pub parts : IsFront ps₀ ps

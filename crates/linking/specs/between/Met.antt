-- What is said of the vertices that link two others.
-- Assumes nothing.
use Rattle.std.specs.Prelude.{ℕ, ◌≡◌, ◌⊎◌, List}
use Rattle.reaching.specs.declared.FaceEdge.{FaceEdge}
use Rattle.reaching.specs.between.Reaching.{Links}
use Rattle.linking.specs.declared.Linking.{Linking}
use Rattle.linking.specs.declared.Linking.TheVariants.{None, One, Pair, More}

-- x is among what was met: there is some; it is the vertex, where that is single,
-- and one of the two, where they are a pair
abbrev pub IsMet : Linking → ℕ → Type 0
IsMet None x = ⊥
IsMet (One v) x = x ≡ v.0
IsMet (Pair v o) x = (x ≡ v.0) ⊎ (x ≡ o.0)
IsMet (More v o) x = Unit {0}

-- what is asked for is among what was met
abbrev pub AllMet : (ℕ → Type 0) → Linking → Type 0
AllMet asked s = (x : ℕ) → asked x → IsMet s x

-- r is s with what is asked for added: both are among what r met
pub record Adds (asked : ℕ → Type 0) (s r : Linking) : Type 0 where
  pub new : AllMet asked r
  pub old : (y : ℕ) → IsMet s y → IsMet r y

-- y is x, which links w and v at u, where the edge goes from w to u
pub record LinkAt (n : ℕ) (table hs : List ℕ) (e : FaceEdge) (v x y : ℕ) : Type 0 where
  pub same : y ≡ x
  pub links : Links n table hs e x v

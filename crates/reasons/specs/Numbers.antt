-- A finding by numbers.
-- Assumes nothing.
use Rattle.std.specs.Prelude.{ℕ, List, [], ◌∷◌, Result, Ok, Err}
use Rattle.refusals.specs.declared.Refusal.{Refusal}
use Rattle.refusals.specs.Named.{number_in}
use Rattle.reasons.specs.declared.Finding.{Finding}
use Rattle.reasons.specs.declared.Finding.TheVariants.{Cell, Turned, BadCorner, NoEdge, NoFace, BadBox, OpenFace, OpenTriple, TwoParts}

-- the refusal, 0 where there is none
abbrev pub finding_number : Result Finding Refusal → ℕ
finding_number a = number_in a

-- ten entries: 0 a cell in least form, 7 a cell turned, else the condition; then the least form, a place, a row or
-- vertices, and zeros
abbrev pub entries_of : Finding → List ℕ
entries_of (Cell a b c d e f g h) = 0 ∷ a ∷ b ∷ c ∷ d ∷ e ∷ f ∷ g ∷ h ∷ 0 ∷ []
entries_of (Turned a b c d e f g h) = 7 ∷ a ∷ b ∷ c ∷ d ∷ e ∷ f ∷ g ∷ h ∷ 0 ∷ []
entries_of (BadCorner i) = 1 ∷ i ∷ 0 ∷ 0 ∷ 0 ∷ 0 ∷ 0 ∷ 0 ∷ 0 ∷ 0 ∷ []
entries_of (NoEdge i) = 2 ∷ i ∷ 0 ∷ 0 ∷ 0 ∷ 0 ∷ 0 ∷ 0 ∷ 0 ∷ 0 ∷ []
entries_of (NoFace i) = 3 ∷ i ∷ 0 ∷ 0 ∷ 0 ∷ 0 ∷ 0 ∷ 0 ∷ 0 ∷ 0 ∷ []
entries_of (BadBox i) = 4 ∷ i ∷ 0 ∷ 0 ∷ 0 ∷ 0 ∷ 0 ∷ 0 ∷ 0 ∷ 0 ∷ []
entries_of (OpenFace i) = 5 ∷ 0 ∷ i ∷ 0 ∷ 0 ∷ 0 ∷ 0 ∷ 0 ∷ 0 ∷ 0 ∷ []
entries_of (OpenTriple u v w) = 5 ∷ 1 ∷ u ∷ v ∷ w ∷ 0 ∷ 0 ∷ 0 ∷ 0 ∷ 0 ∷ []
entries_of TwoParts = 6 ∷ 0 ∷ 0 ∷ 0 ∷ 0 ∷ 0 ∷ 0 ∷ 0 ∷ 0 ∷ 0 ∷ []

-- a refusal leaves what was there
abbrev pub entries_left : Result Finding Refusal → List ℕ → List ℕ
entries_left (Ok w) old = entries_of w
entries_left (Err r) old = old

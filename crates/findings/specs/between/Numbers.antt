-- A least form, and a finding or a refusal's number, by numbers.
-- Assumes nothing.
use Rattle.std.specs.Prelude.{ℕ, List, [], ◌∷◌, Option, None, Some, Result, Ok, Err}
use Rattle.reasons.specs.declared.Finding.{Finding}
use Rattle.reasons.specs.Numbers.{entries_of}

-- zeros, where there is no form
abbrev pub form_numbers : Option (List ℕ) → List ℕ
form_numbers (Some xs) = xs
form_numbers None = 0 ∷ 0 ∷ 0 ∷ 0 ∷ 0 ∷ 0 ∷ 0 ∷ 0 ∷ []

-- a refusal's number, 0 where something was found
abbrev pub number_behind : Result Finding ℕ → ℕ
number_behind (Ok w) = 0
number_behind (Err k) = k

-- what was found in ten entries; a refusal leaves what was there
abbrev pub entries_behind : Result Finding ℕ → List ℕ → List ℕ
entries_behind (Ok w) old = entries_of w
entries_behind (Err k) old = old

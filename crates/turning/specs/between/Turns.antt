-- The turns of a tuple by rows laid flat, as the loop over them goes through them.
-- Assumes nothing.
use Rattle.std.specs.Prelude.{ℕ, List, map}
use Rattle.base.specs.Lists.{up_to}
use Rattle.templates.specs.Tables.{at}
use Rattle.templates.specs.between.Eight.{eight}
use Rattle.templates.specs.between.Flat.{table_row}

-- the n turns of c by a table of k corners a row, each in eight places
abbrev pub turns_by : ℕ → ℕ → List ℕ → List ℕ → List (List ℕ)
turns_by k n turns c = map (λ i. eight (at c (table_row k turns i))) (up_to n)

-- The counts that a view holds when it is opened.
-- Assumes nothing.
use Rattle.std.specs.Prelude.{ℕ, List, Result, Ok, Err}
use Rattle.refusals.specs.declared.Refusal.{Refusal}
use Rattle.arrays.specs.Refusals.{checked}
use Rattle.arrays.specs.declared.Counts.{Counts}
use Rattle.mesh.specs.declared.Sizes.{Sizes}

-- the counts of an accepted file, and none of a refused one
abbrev pub sizes_of : Result Counts Refusal → Sizes
sizes_of (Ok c) = record { n = c.vertices; t = c.tets }
sizes_of (Err r) = record { n = 0; t = 0 }

unfoldable pub sizes_in : List ℕ → Sizes
sizes_in f = sizes_of (checked f)

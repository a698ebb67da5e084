-- What was taken of the input is what the lists are read from.
use Rattle.std.proofs.Common.{◌≡◌, List, ℕ}
use Rattle.std.specs.Io.KnownBytes.{Consumes}
use Rattle.reading_words.specs.Steps.{begun}
use Rattle.reading_lists.specs.Reading.{reading, read_all}
use Rattle.input.proofs.read_text.Given as goal

abbrev pub invariant-loop : goal.invariant-loop
invariant-loop g l =
    (x : List ℕ)
    × Consumes (g.R.Read.remaining l.initial.from) (g.R.Read.remaining l.from) x
    × (reading l.r l.coordinates l.numbers l.parts ≡ read_all x (reading begun l.initial.coordinates l.initial.numbers l.initial.parts))

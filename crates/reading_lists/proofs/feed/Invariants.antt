-- `reading_lists::feed` meets its contract. The loop's invariant: what is left, read behind what is read, is all.
-- Assumes nothing.
use mathlib.Core.Path.{◌≡◌}
use lib.ListN.{length, drop}
use Rattle.reading_lists.specs.Reading.{reading, read_all}
use Rattle.reading_lists.proofs.feed.Given as goal

abbrev pub invariant-loop-b : goal.invariant-loop-b
invariant-loop-b l = (read_all (drop l.b-index l.chunk) (reading l.s l.coordinates l.labels l.parts) ≡ read_all l.chunk (reading l.initial.s l.initial.coordinates l.initial.labels l.initial.parts))
    × (length l.coordinates ≡ length l.initial.coordinates)
    × (length l.labels ≡ length l.initial.labels)
    × (length l.parts ≡ length l.initial.parts)

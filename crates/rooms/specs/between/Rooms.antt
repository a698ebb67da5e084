-- A list that is to be laid at the start of a lent room: whole, or not at all where the room is too short.
-- Assumes nothing.
use Rattle.std.specs.Prelude.{ℕ, cond, List, ◌++◌, ltb, length, drop, Option, Some, None}

-- the answer for the list xs and a room of this many entries: how many the list has, or none where they are too many
abbrev pub filled_by : List ℕ → ℕ → Option ℕ
filled_by xs room = cond (ltb room (length xs)) None (Some (length xs))

-- and what the room holds at exit
abbrev pub laid_by : List ℕ → List ℕ → List ℕ
laid_by xs old = cond (ltb (length old) (length xs)) old (xs ++ drop (length xs) old)

-- The refusals by their numbers, and an answer that the first number that applies refuses.
-- Assumes nothing.
use Rattle.std.specs.Prelude.{ℕ, cond, eqb, Result, Ok, Err}
use Rattle.refusals.specs.declared.Refusal.{Refusal}
use Rattle.refusals.specs.declared.Refusal.TheVariants.{Length, Counts, Layout, OutOfBounds, NoVertex, VertexTwice, Flat, Crowded, Folded, TableShort, NoRoom, CellTooLong, NoLeastForm, ListsUnfit, RoomShort, NoKind}

abbrev pub number_of : Refusal → ℕ
number_of Length = 1
number_of Counts = 2
number_of Layout = 3
number_of OutOfBounds = 4
number_of NoVertex = 5
number_of VertexTwice = 6
number_of Flat = 7
number_of Crowded = 8
number_of Folded = 9
number_of TableShort = 10
number_of NoRoom = 11
number_of CellTooLong = 12
number_of NoLeastForm = 13
number_of ListsUnfit = 14
number_of RoomShort = 15
number_of NoKind = 16

-- the refusal of a number from 1 to 16
unfoldable pub named : ℕ → Refusal
named k =
    cond (eqb k 1) Length
    (cond (eqb k 2) Counts
    (cond (eqb k 3) Layout
    (cond (eqb k 4) OutOfBounds
    (cond (eqb k 5) NoVertex
    (cond (eqb k 6) VertexTwice
    (cond (eqb k 7) Flat
    (cond (eqb k 8) Crowded
    (cond (eqb k 9) Folded
    (cond (eqb k 10) TableShort
    (cond (eqb k 11) NoRoom
    (cond (eqb k 12) CellTooLong
    (cond (eqb k 13) NoLeastForm
    (cond (eqb k 14) ListsUnfit
    (cond (eqb k 15) RoomShort NoKind))))))))))))))

-- ---- an answer

-- a, or the refusal of the number k where one applies
unfoldable pub unless : {A : Type 0} → ℕ → A → Result A Refusal
unless k a = cond (eqb k 0) (Ok a) (Err (named k))

-- the number of an answer: 0 where nothing is refused
abbrev pub number_in : {A : Type 0} → Result A Refusal → ℕ
number_in (Ok a) = 0
number_in (Err r) = number_of r

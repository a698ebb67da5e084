-- A portion of a mesh file: what is answered, and what the lent table and the lent room hold afterwards.
-- Assumes nothing.
use Rattle.std.specs.Prelude.{ℕ, ◌*◌, ◌≡◌, cond, List, [], ◌∷◌, ◌++◌, eqb, ltb, length, drop}
use Rattle.base.specs.Refusals.{Refusal, refuse, first_of}
use Rattle.space.specs.Mesh.{Mesh}
use Rattle.layout.specs.Layout.{vertices, decoded}
use Rattle.arrays.specs.Refusals.{refusals}
use Rattle.cells.specs.Full.{full_list}
use Rattle.neighbours.specs.Table.{table_of}
use Rattle.portions.specs.Portions.{Portion, reply, refused, portion}
use Rattle.rule.specs.Rule.{tet_rule}
use Rattle.records.specs.Marks.{Answer, says, wrote}

-- of a file with the refusals rs, and with the mesh m of n vertices
module _ (rs : List Refusal) (m : Mesh) (n : ℕ) where
  -- the first of those that applies, and of 10 and 11 after them, where the table and the room have this many entries
  unfoldable pub barred : ℕ → ℕ → ℕ
  barred table room =
      first_of
      (rs
      ++ (refuse 10 (ltb table (length (table_of m n)))
      ∷ refuse 11 (ltb room tet_rule.size)
      ∷ []))

  -- from the mark k on: that refusal, with nothing written, or the portion of the full list
  unfoldable pub portion_by : List ℕ → ℕ → ℕ → Portion
  portion_by k table room =
      cond (eqb (barred table room) 0)
      (portion tet_rule (full_list m) k room)
      (reply (refused (barred table room)) [])

  -- the table at exit: the neighbour table and then the entries that were there, unless one of 1 to 11 applies
  unfoldable pub table_left : List ℕ → ℕ → List ℕ
  table_left table room =
      cond (eqb (barred (length table) room) 0) (table_of m n ++ drop (length (table_of m n)) table) table

  -- the room at exit: the records from its beginning on, and then the entries that were there
  abbrev pub room_left : List ℕ → ℕ → List ℕ → List ℕ
  room_left k table room =
      (portion_by k table (length room)).written ++ drop (length (portion_by k table (length room)).written) room

  -- what a call promises, from the mark k on with this table and this room: its answer, and what it leaves in both
  pub record Promised (k table room : List ℕ) (a : Answer) (table' room' : List ℕ) : Type 0 where
    -- the answer by its number and values
    pub answered : says a ≡ (portion_by k (length table) (length room)).answer
    -- how many records it tells of, refusal 12 too
    pub counted : tet_rule.size * wrote a ≡ length (portion_by k (length table) (length room)).written
    pub tabled : table' ≡ table_left table (length room)
    pub stored : room' ≡ room_left k (length table) room

-- of the file with these bytes
abbrev pub Portioned : (f k table room : List ℕ) → Answer → (table' room' : List ℕ) → Type 0
Portioned f = Promised (refusals f) (decoded f) (vertices f)

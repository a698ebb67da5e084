-- What the listing of a mesh file owes its callers, over the file's bytes f: `Demand2` and `Demand3`.
-- Assumes nothing.
use Rattle.std.specs.Prelude.{ℕ, ◌*◌, ◌/◌, ◌≤◌, max, ◌≡◌, Bool, true, false, List, [], ◌∷◌, ◌++◌, leb, length, take}
use Rattle.base.specs.Lists.{all}
use Rattle.layout.specs.Layout.{vertices, decoded}
use Rattle.arrays.specs.Refusals.{refusal}
use Rattle.cells.specs.Full.{full_list}
use Rattle.exactly_once.specs.Once.{ListedOnce}
use Rattle.neighbours.specs.Table.{table_of}
use Rattle.portions.specs.Portions.{given, after, records, read_cells}
use Rattle.portions.specs.Run.{Promise}
use Rattle.record.specs.Entries.{cell_of}
use Rattle.rule.specs.Rule.{tet_rule}
use Rattle.record.specs.declared.Mark.{Mark}
use Rattle.record.specs.Marks.{mark_of}
use Rattle.records.specs.Marks.{Answer, gave, says, answer_number}
use Rattle.portioning.specs.Portion.{Portioned}

-- ---- demand 2

-- of an accepted file each arrangement of corners that meets the conditions is listed once, whichever way it is turned,
-- with exactly its tetrahedra, and nothing else is listed
abbrev pub Demand2 : List ℕ → Type 0
Demand2 f = refusal f ≡ 0 → ListedOnce (decoded f)

-- ---- demand 3

-- calls of `portion` that are not refused, with these tables and rooms, each begun at the mark that the one before
-- handed back: got is what they gave, laid end to end; over says whether the end was told, which ends the calls
pub data Called (f : List ℕ) : Mark → List (List ℕ) → List (List ℕ) → List ℕ → Bool → Mark → Type 0 where
  none : {k : Mark} → Called f k [] [] [] false k
  last : {k k' : Mark} {table room table' left : List ℕ} {n : ℕ}
      → Portioned f (mark_of k) table room (gave n true k') table' left
      → Called f k (table ∷ []) (room ∷ []) (take (n * tet_rule.size) left) true k'
  more : {k j k' : Mark} {table room table' left got : List ℕ} {tables rooms : List (List ℕ)} {n : ℕ} {over : Bool}
      → Portioned f (mark_of k) table room (gave n false j) table' left → Called f j tables rooms got over k'
      → Called f k (table ∷ tables) (room ∷ rooms) (take (n * tet_rule.size) left ++ got) over k'

-- portions laid end to end are the cells after the first mark, whatever the mark, the rooms and the tables
pub record Demand3 (f : List ℕ) : Type 0 where
  -- from the start mark to the end: the records of the full list, which read back are its cells,
  -- in no more calls than it has cells, or one
  pub listed : {s k' : Mark} {tables rooms : List (List ℕ)} {got : List ℕ} → s.kind ≡ 65535
      → Called f s tables rooms got true k'
      → (got ≡ records tet_rule (full_list (decoded f)))
      × ((read_cells tet_rule cell_of (length (full_list (decoded f))) got ≡ full_list (decoded f))
      × (length rooms ≤ max 1 (length (full_list (decoded f)))))
  -- calls from any mark, not yet at the end or at it, keep the promise
  pub promise : {k k' : Mark} {tables rooms : List (List ℕ)} {got : List ℕ} {over : Bool}
      → Called f k tables rooms got over k'
      → Promise tet_rule (full_list (decoded f)) (mark_of k) rooms got over (mark_of k')
  -- of an accepted file, a call with a table that suffices and room for a record is answered,
  -- unless a cell that it has room for has too many tetrahedra
  pub answers : {k table room table' left : List ℕ} {a : Answer} → refusal f ≡ 0
      → length (table_of (decoded f) (vertices f)) ≤ length table → tet_rule.size ≤ length room
      → Portioned f k table room a table' left
      → all tet_rule.fits (take (length room / tet_rule.size) (after tet_rule (full_list (decoded f)) k)) ≡ true
      → answer_number a ≡ 0
  -- and at nine zeros it gives no records, tells the end and hands back nine zeros
  pub ended : {table room table' left : List ℕ} {a : Answer} → refusal f ≡ 0
      → length (table_of (decoded f) (vertices f)) ≤ length table → tet_rule.size ≤ length room
      → Portioned f tet_rule.end table room a table' left
      → (says a ≡ given 0 true tet_rule.end) × (left ≡ room)
  -- so calls come to the end, whichever tables that suffice and rooms for a record are lent, with no more of them than
  -- there are cells after the mark, or one: the file is accepted, and a record can hold each of those cells
  pub reaches : (k : Mark) (tables rooms : List (List ℕ)) → refusal f ≡ 0 → length tables ≡ length rooms
      → all (λ table. leb (length (table_of (decoded f) (vertices f))) (length table)) tables ≡ true
      → all (λ room. leb tet_rule.size (length room)) rooms ≡ true
      → all tet_rule.fits (after tet_rule (full_list (decoded f)) (mark_of k)) ≡ true
      → max 1 (length (after tet_rule (full_list (decoded f)) (mark_of k))) ≤ length rooms
      → (i : ℕ) × (got : List ℕ) × (k' : Mark) × Called f k (take i tables) (take i rooms) got true k'

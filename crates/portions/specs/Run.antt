-- What one portion promises, and what is promised of a caller's calls one after the other:
-- demand 3, `Demand3Over` below.
-- Assumes nothing.
use Rattle.std.specs.Prelude.{ℕ, ◌+◌, ◌*◌, ◌<◌, ◌≤◌, ◌/◌, max, ◌≡◌, Bool, true, false, List, [], ◌∷◌, ◌++◌, leb, length, take}
use Rattle.base.specs.Lists.{all}
use Rattle.base.specs.Laid.{Laid}
use Rattle.portions.specs.Portions.{Rule, Answer, given, reply, after, records, portion}

module _ {A : Type 0} (rule : Rule A) (full : List A) where
  -- what a portion promises that is begun at the mark k with this room: its answer, and what it leaves in the room
  pub record Outcome (k room : List ℕ) (a : Answer) (left : List ℕ) : Type 0 where
    pub answered : a ≡ (portion rule full k (length room)).answer
    pub stored : Laid 0 (portion rule full k (length room)).written room left

  -- one call with room for a record at least that is not refused:
  -- it gives n records, says whether none remain and hands back k'
  pub record Call (k room : List ℕ) (n : ℕ) (none : Bool) (k' left : List ℕ) : Type 0 where
    pub wide : rule.size ≤ length room
    pub outcome : Outcome k room (given n none k') left

  -- what a caller reads who is told of n records: the first n of the room as the call leaves it
  unfoldable pub read : ℕ → List ℕ → List ℕ
  read n left = take (n * rule.size) left

  -- calls from the mark k on, each begun at the mark that the one before handed back, with these rooms:
  -- got is what they gave, laid end to end; over says whether the end was told, which ends the calls;
  -- k' is the mark that they came to
  pub data Calls : List ℕ → List (List ℕ) → List ℕ → Bool → List ℕ → Type 0 where
    none : {k : List ℕ} → Calls k [] [] false k
    last : {k room k' left : List ℕ} {n : ℕ} → Call k room n true k' left → Calls k (room ∷ []) (read n left) true k'
    more : {k room j left got k' : List ℕ} {rooms : List (List ℕ)} {n : ℕ} {over : Bool} → Call k room n false j left
        → Calls j rooms got over k' → Calls k (room ∷ rooms) (read n left ++ got) over k'

  pub record Promise (k : List ℕ) (rooms : List (List ℕ)) (got : List ℕ) (over : Bool) (k' : List ℕ) : Type 0 where
    -- what they gave, and then the cells after the mark that they came to, are the cells after the first mark
    pub whole : got ++ records rule (after rule full k') ≡ records rule (after rule full k)
    -- so when the end is told, they gave all the cells after the first mark, in order, and a record could hold each
    pub complete : over ≡ true → got ≡ records rule (after rule full k)
    pub fit : over ≡ true → all rule.fits (after rule full k) ≡ true
    -- the end is told with the last cell and not before, and then the end mark is handed back
    pub told : over ≡ true → after rule full k' ≡ []
    pub ended : over ≡ true → k' ≡ rule.end
    pub untold : over ≡ false → 0 < length rooms → 0 < length (after rule full k')
    -- no more calls than cells, or one if there are none
    pub few : length rooms + length (after rule full k') ≤ max 1 (length (after rule full k))

  -- demand 3: portions laid end to end are the cells after the first mark, whatever the mark and the rooms
  pub record Demand3Over : Type 0 where
    -- from the start mark to the end the calls give the full list, in no more calls than it has cells, or one
    pub listed : (rooms : List (List ℕ)) (got k' : List ℕ) → Calls rule.start rooms got true k'
        → (got ≡ records rule full) × (length rooms ≤ max 1 (length full))
    -- calls from any mark, not yet at the end or at it, keep the promise
    pub promise : (k : List ℕ) (rooms : List (List ℕ)) (got : List ℕ) (over : Bool) (k' : List ℕ) → Calls k rooms got over k' → Promise k rooms got over k'
    -- after the start mark come all the cells; at the end mark a portion gives none, and the end mark again
    pub started : after rule full rule.start ≡ full
    pub ended : (room : ℕ) → rule.size ≤ room → portion rule full rule.end room ≡ reply (given 0 true rule.end) []
    -- with room for a record a call is answered, unless a cell that it has room for is too long
    pub answers : (k room : List ℕ) → rule.size ≤ length room
        → all rule.fits (take (length room / rule.size) (after rule full k)) ≡ true
        → (n : ℕ) × (over : Bool) × (k' : List ℕ) × (left : List ℕ) × Call k room n over k' left
    -- so calls come to the end, with no more rooms than there are cells, or one
    pub reaches : (k : List ℕ) (rooms : List (List ℕ)) → all (λ room. leb rule.size (length room)) rooms ≡ true
        → all rule.fits (after rule full k) ≡ true → max 1 (length (after rule full k)) ≤ length rooms
        → (i : ℕ) × (got : List ℕ) × (k' : List ℕ) × Calls k (take i rooms) got true k'

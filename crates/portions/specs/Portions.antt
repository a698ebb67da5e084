-- Marks, records and portions, over any rule of cells.
-- Assumes nothing.
use Rattle.std.specs.Prelude.{ℕ, zero, suc, ◌<◌, ◌/◌, ◌≡◌, Bool, true, false, cond, ◌&&◌, ◌||◌, eqb, ltb, leb, length, take, drop}
use mathlib.Core.List.{List, [], ◌∷◌, map, Memᴰ}
use Rattle.base.specs.Lists.{all, keep, spread, leading, last_or}

-- x is before y: at the first place where they differ, x has the less
unfoldable pub before : List ℕ → List ℕ → Bool
before [] ys = false
before (x ∷ xs) [] = false
before (x ∷ xs) (y ∷ ys) = let r = before xs ys in ltb x y || (eqb x y && r)

-- each element is before all that follow
unfoldable pub rises : {A : Type 0} → (A → A → Bool) → List A → Bool
rises b [] = true
rises b (x ∷ xs) = all (b x) xs && rises b xs

-- what marks and records of cells are; a mark is any list of numbers
pub record Rule (A : Type 0) : Type 0 where
  -- the mark of a cell
  pub mark : A → List ℕ
  -- what marks are compared by
  pub key : List ℕ → List ℕ
  -- a mark before all cells, and one after all
  pub start : List ℕ
  pub end : List ℕ
  -- how many entries a record has, those of a cell, and whether a record can hold the cell
  pub size : ℕ
  pub entries : A → List ℕ
  pub fits : A → Bool

-- ── portions ──

pub data Answer : Type 0 where
  refused : ℕ → Answer
  -- how many, whether none remain, and the next mark
  given : ℕ → Bool → List ℕ → Answer

-- the answer, and the entries written from the room's beginning; all others stay
pub record Portion : Type 0 where
  pub answer : Answer
  pub written : List ℕ

abbrev pub reply : Answer → List ℕ → Portion
reply a w = record { answer = a; written = w }

module _ {A : Type 0} (rule : Rule A) where
  -- the cell comes after the mark
  unfoldable pub is_after : List ℕ → A → Bool
  is_after k c = before (rule.key k) (rule.key (rule.mark c))

  -- of these cells, those that come after the mark
  unfoldable pub after : List A → List ℕ → List A
  after cs k = keep (is_after k) cs

  -- whether any of these cells comes after the mark
  unfoldable pub remains : List A → List ℕ → Bool
  remains cs k = ltb 0 (length (after cs k))

  -- the records of these cells, laid end to end
  unfoldable pub records : List A → List ℕ
  records cs = spread rule.entries cs

  -- the mark of the last of these cells, which were given from the mark k on
  unfoldable pub last_mark : List ℕ → List A → List ℕ
  last_mark k cs = last_or k (map rule.mark cs)

  -- from the mark k on, after which the cells cs come: the first `most` of them, or all if fewer
  unfoldable pub portion_of : List ℕ → List A → ℕ → Portion
  portion_of k cs most =
      let w = take most cs in
      let none = leb (length cs) most in
      cond (all rule.fits w)
      (reply (given (length w) none (cond none rule.end (last_mark k w))) (records w))
      (reply (refused 12) (records (leading rule.fits w)))

  -- of the full list, from the mark k on, with room for this many entries
  unfoldable pub portion : List A → List ℕ → ℕ → Portion
  portion full k room =
      let p = portion_of k (after full k) (room / rule.size) in
      cond (ltb room rule.size) (reply (refused 11) []) p

  -- what a rule and its full list keep to: the list rises, the start is before it and the end after it,
  -- a record has its size
  pub record Lawful (full : List A) : Type 0 where
    pub some : 0 < rule.size
    pub sized : (c : A) → Memᴰ c full → rule.fits c ≡ true → length (rule.entries c) ≡ rule.size
    pub rising : rises (λ c d. is_after (rule.mark c) d) full ≡ true
    pub started : after full rule.start ≡ full
    pub ended : after full rule.end ≡ []

  -- a record tells its cell: a cell's entries have an inverse
  pub record Telling (full : List A) : Type 0 where
    pub cell_of : List ℕ → A
    pub tells : (c : A) → Memᴰ c full → rule.fits c ≡ true → cell_of (rule.entries c) ≡ c

  -- n records laid end to end, read back as cells
  unfoldable pub read_cells : (List ℕ → A) → ℕ → List ℕ → List A
  read_cells cell_of zero xs = []
  read_cells cell_of (suc n) xs = cell_of (take rule.size xs) ∷ read_cells cell_of n (drop rule.size xs)

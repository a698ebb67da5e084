-- What a search for the next cell promises, and how far a portion has come that calls it.
-- Assumes nothing.
use Rattle.std.specs.Prelude.{ℕ, ◌≤◌, ◌/◌, ◌≡◌, Bool, true, false, ◌⊎◌, length}
use mathlib.Core.List.{List, ◌++◌, Memᴰ}
use Rattle.base.specs.Lists.{all}
use Rattle.base.specs.Laid.{Laid}
use Rattle.portions.specs.between.Tuples.{Agree, Lt}
use Rattle.portions.specs.Portions.{Rule, is_after, after, records, last_mark}

module _ {A : Type 0} (rule : Rule A) (full : List A) where
  -- c is the first cell after the mark k where `found` is true, and there is none where it is false
  pub record Next (k : List ℕ) (found : Bool) (c : A) : Type 0 where
    pub among : found ≡ true → Memᴰ c full
    pub later : found ≡ true → is_after rule k c ≡ true
    pub least : found ≡ true → (d : A) → Memᴰ d full → is_after rule k d ≡ true → (d ≡ c) ⊎ (is_after rule (rule.mark c) d ≡ true)
    pub none : found ≡ false → (d : A) → Memᴰ d full → is_after rule k d ≡ true → ⊥

  -- a portion from the mark k on has come to the mark j: `done` are the cells it has written
  pub record Under (k : List ℕ) (room : ℕ) (done : List A) (j : List ℕ) : Type 0 where
    pub split : after rule full k ≡ done ++ after rule full j
    pub fit : all rule.fits done ≡ true
    pub within : length done ≤ room / rule.size
    pub reached : j ≡ last_mark rule k done

  -- the same of a loop that has written i records, so that the room, once old, is l
  pub record Come (k old j : List ℕ) (i : ℕ) (l : List ℕ) : Type 0 where
    pub done : List A
    pub under : Under k (length old) done j
    pub counted : length done ≡ i
    pub laid : Laid 0 (records rule done) old l

-- the cells of one kind are what tuples of this many corners make that pass `leaf`, and they rise with their tuples
pub record Kind {A : Type 0} (rule : Rule A) (cells : List A) (corners : ℕ) (leaf : List ℕ → Bool) (make : List ℕ → A) : Type 0 where
  pub has : (s : List ℕ) → leaf s ≡ true → Memᴰ (make s) cells
  pub of : {c : A} → Memᴰ c cells → (s : List ℕ) × (leaf s ≡ true) × (c ≡ make s)
  pub same : (s t : List ℕ) → Agree corners s t → make s ≡ make t
  pub rise : (s t : List ℕ) → leaf s ≡ true → leaf t ≡ true → Lt corners s t → is_after rule (rule.mark (make s)) (make t) ≡ true

-- of one kind, the cells after the mark k are those of the tuples after v
pub record Alike {A : Type 0} (rule : Rule A) (corners : ℕ) (leaf : List ℕ → Bool) (make : List ℕ → A) (k v : List ℕ) : Type 0 where
  pub later : (s : List ℕ) → leaf s ≡ true → Lt corners v s → is_after rule k (make s) ≡ true
  pub only : (s : List ℕ) → leaf s ≡ true → is_after rule k (make s) ≡ true → Lt corners v s

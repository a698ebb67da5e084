-- How firm the promise of a portion is: it leaves one outcome, a record tells its cell, a mark cuts the list in two,
-- and what does not keep it.
-- Assumes nothing.
use Prim.Native.Nat.{ℕ, ◌+◌, ◌*◌, ◌/◌, ◌<◌, ◌≤◌}
use mathlib.Core.Path.{◌≡◌, refl, sym, ◌∙◌, ap, ap₂, subst}
use mathlib.Core.Bool.{Bool, true, false, not, cond, true≢false}
use mathlib.Core.List.{List, [], ◌∷◌, ◌++◌, Memᴰ}
use lib.ListN.{length, take, replicate, length-take, length-replicate, length-append}
use lib.Seq.{take_at, drop_at}
use native.Mathlib.Omega.{arith}
use native.Mathlib.Decide.{dec_lt}
use native.Mathlib.Nat.{le-div_iff_mul-le, mul-div_cancel, one-mul}
use Rattle.base.specs.Lists.{all, keep, spread}
use Rattle.base.proofs.Lists.{both_left, both_right, all-at, all_from}
use Rattle.base.proofs.Members.{keep_at, keep_all, keep-none}
use Rattle.portions.specs.Portions.{before, rises, Rule, Answer, refused, given, is_after, after, records, Lawful, Telling, read_cells}
use Rattle.portions.specs.Run.{Outcome, Call, read, Calls}
use Rattle.portions.proofs.Order.{before_trans}
use Rattle.portions.proofs.Portions.{sized, cells_in, call}
use Rattle.portions.proofs.Loop.{portion-short}
use Rattle.portions.proofs.Run.{calls, ends, answers}

-- ── one outcome ──

module _ {A : Type 0} (rule : Rule A) (full : List A) where
  -- two outcomes that the promise permits coincide, refusals too
  pub one-outcome : {k room : List ℕ} {a b : Answer} {l m : List ℕ} → Outcome rule full k room a l → Outcome rule full k room b m → (a ≡ b) × (l ≡ m)
  one-outcome x y = (x.answered ∙ sym y.answered, x.stored.content ∙ sym y.stored.content)

-- ── marks ──

module _ {A : Type 0} (rule : Rule A) (full : List A) where
  -- every mark has a key, and what comes after it goes by the key alone
  pub same_key : (j k : List ℕ) → rule.key j ≡ rule.key k → after rule full j ≡ after rule full k
  unfolding after is_after
  same_key j k e = ap (λ x. keep (λ c. before x (rule.key (rule.mark c))) full) e

module _ {A : Type 0} (p : A → Bool) (b : A → A → Bool) (up : (x y : A) → p x ≡ true → b x y ≡ true → p y ≡ true) where
  -- a test that goes on to pass once it passes cuts a list that rises in two
  cut-two : (xs : List A) → rises b xs ≡ true → xs ≡ keep (λ x. not (p x)) xs ++ keep p xs
  unfolding keep rises
  cut-two [] e = refl
  cut-two (x ∷ xs) e = go (p x) refl (cut-two xs (both_right (all (b x) xs) _ e))
    where
      go : (t : Bool) → p x ≡ t → xs ≡ keep (λ x. not (p x)) xs ++ keep p xs → x ∷ xs ≡ cond (not t) (x ∷ keep (λ x. not (p x)) xs) (keep (λ x. not (p x)) xs) ++ cond t (x ∷ keep p xs) (keep p xs)
      go true t r = sym (ap₂ (λ l m. l ++ (x ∷ m)) (keep-none (λ x. not (p x)) xs (λ y h. ap not (later y h))) (keep_all p xs (all_from p xs later)))
        where
          later : (y : A) → Memᴰ y xs → p y ≡ true
          later y h = up x y t (all-at (b x) xs (both_left (all (b x) xs) _ e) h)
      go false t r = ap (λ l. x ∷ l) r

module _ {A : Type 0} (rule : Rule A) (full : List A) (law : Lawful rule full) where
  -- whatever the mark: the list is the cells that do not come after it, and then those that do
  pub mark_cuts : (k : List ℕ) → full ≡ keep (λ c. not (is_after rule k c)) full ++ after rule full k
  unfolding after is_after
  mark_cuts k =
      cut-two (is_after rule k) (λ c d. is_after rule (rule.mark c) d)
      (λ c d h e. before_trans (rule.key k) (rule.key (rule.mark c)) (rule.key (rule.mark d)) h e)
      full law.rising

  -- ── a record tells its cell ──

  module _ (tell : Telling rule full) where
    -- records laid end to end, read back, are the cells laid end to end
    pub read_back : (w : List A) → ((c : A) → Memᴰ c w → Memᴰ c full) → all rule.fits w ≡ true → read_cells rule tell.cell_of (length w) (records rule w) ≡ w
    unfolding read_cells records spread
    read_back [] f e = refl
    read_back (c ∷ w) f e =
        let fit = both_left (rule.fits c) _ e in
        let long : length (rule.entries c) ≡ rule.size = law.sized c (f c (Memᴰ.head refl)) fit in
        ap₂ (λ x l. x ∷ l)
        (ap tell.cell_of (take_at (rule.entries c) (records rule w) rule.size long) ∙ tell.tells c (f c (Memᴰ.head refl)) fit)
        (ap (read_cells rule tell.cell_of (length w)) (drop_at (rule.entries c) (records rule w) rule.size long) ∙ read_back w (λ d h. f d (Memᴰ.tail h)) (both_right (rule.fits c) _ e))

    same_number : (v w : List A) → ((c : A) → Memᴰ c v → Memᴰ c full) → ((c : A) → Memᴰ c w → Memᴰ c full) → all rule.fits v ≡ true → all rule.fits w ≡ true → records rule v ≡ records rule w → length v ≡ length w
    same_number v w f g d e q =
        sym (mul-div_cancel (length v) law.some)
        ∙ ap (λ i. i / rule.size) (sym (sized rule full law v f d) ∙ ap length q ∙ sized rule full law w g e)
        ∙ mul-div_cancel (length w) law.some

    -- so the same entries are the same cells
    pub records-tell : (v w : List A) → ((c : A) → Memᴰ c v → Memᴰ c full) → ((c : A) → Memᴰ c w → Memᴰ c full) → all rule.fits v ≡ true → all rule.fits w ≡ true → records rule v ≡ records rule w → v ≡ w
    records-tell v w f g d e q =
        sym (read_back v f d)
        ∙ ap₂ (read_cells rule tell.cell_of) (same_number v w f g d e q) q
        ∙ read_back w g e

    -- the entries that calls gave from a mark to the end, read back, are the cells after the mark
    pub calls-tell : {k : List ℕ} {rooms : List (List ℕ)} {got k' : List ℕ} → Calls rule full k rooms got true k' → read_cells rule tell.cell_of (length (after rule full k)) got ≡ after rule full k
    unfolding after
    calls-tell {k} r =
        let p = calls rule full law r in
        ap (read_cells rule tell.cell_of (length (after rule full k))) (p.complete refl)
        ∙ read_back (after rule full k) (λ c h. (keep_at (is_after rule k) full h).0) (p.fit refl)

  -- an answer that is no refusal is one of a call with room for a record
  pub outcome-call : {k room : List ℕ} {n : ℕ} {none : Bool} {k' left : List ℕ} → Outcome rule full k room (given n none k') left → Call rule full k room n none k' left
  outcome-call {k} {room} {n} {none} {k'} o =
      elim (dec_lt (length room) rule.size) [
        | yes h ↦
            let e : given n none k' ≡ refused 11 = o.answered ∙ ap (λ p. p.answer) (portion-short rule full law k (length room) h) in
            absurd (true≢false (let v : true ≡ false = cc in v))
        | no h ↦ record { wide = omega arith; outcome = o }
      ]

  -- ── what does not keep the promise ──

  module _ {k room k' : List ℕ} where
    -- a made-up number of records
    pub made_up_number_fails : {n : ℕ} {none : Bool} {left : List ℕ} → Call rule full k room n none k' left → (n ≡ length (take (length room / rule.size) (after rule full k)) → ⊥) → ⊥
    unfolding cells_in
    made_up_number_fails c f = f (call rule full law k room c).1

    -- more to come, where the room ran out exactly at the last cell
    pub more_at_the_end_fails : {n : ℕ} {left : List ℕ} → Call rule full k room n false k' left → length (after rule full k) ≤ length room / rule.size → ⊥
    unfolding cells_in
    more_at_the_end_fails c h =
        let p = (call rule full law k room c).0 in
        omega (arith, ap length p.split, length-append (take (length room / rule.size) (after rule full k)) (after rule full k'), length-take (length room / rule.size) (after rule full k), (p.untold refl).1)

    -- the end, where there are more cells than the room can take
    pub end_before_the_last_fails : {n : ℕ} {left : List ℕ} → Call rule full k room n true k' left → length room / rule.size < length (after rule full k) → ⊥
    unfolding cells_in
    end_before_the_last_fails c h =
        let p = (call rule full law k room c).0 in
        omega (arith, ap length p.split, length-append (take (length room / rule.size) (after rule full k)) (after rule full k'), length-take (length room / rule.size) (after rule full k), ap length (p.told refl))

    -- all the work in the first call, and no records in a later one that has cells after its mark
    pub all_at_first_fails : {none : Bool} {left : List ℕ} → Call rule full k room 0 none k' left → 0 < length (after rule full k) → ⊥
    unfolding cells_in
    all_at_first_fails c h =
        let some : 1 ≤ length room / rule.size = (le-div_iff_mul-le law.some).1 (rw (one-mul rule.size) c.wide) in
        omega (arith, (call rule full law k room c).1, length-take (length room / rule.size) (after rule full k))

    -- nothing written, where the room did not happen to hold the records
    pub nothing_written_fails : {n : ℕ} {none : Bool} → Call rule full k room n none k' room → (take (n * rule.size) room ≡ records rule (take (length room / rule.size) (after rule full k)) → ⊥) → ⊥
    unfolding cells_in read
    nothing_written_fails c f = f (call rule full law k room c).2

  -- one answer to every call
  pub fixed_answer_fails : (a : Answer) (left : List ℕ → List ℕ → List ℕ) → ((k room : List ℕ) → Outcome rule full k room a (left k room)) → 0 < length full → ⊥
  fixed_answer_fails a left f h =
      let room : List ℕ = replicate rule.size 0 in
      let wide : rule.size ≤ length room = omega (arith, length-replicate {A = ℕ} rule.size 0) in
      let is : a ≡ given 0 true rule.end = (f rule.end room).answered ∙ ap (λ p. p.answer) (ends rule full law (length room) wide) in
      all_at_first_fails
      (record { wide = wide; outcome = subst (λ b. Outcome rule full rule.start room b (left rule.start room)) is (f rule.start room) })
      (omega (arith, ap length law.started))

  -- a refusal, where there is room for a record and a record can hold each cell that there is room for
  pub refusal-fails : {k room : List ℕ} {x : ℕ} {left : List ℕ} → Outcome rule full k room (refused x) left → rule.size ≤ length room → all rule.fits (take (length room / rule.size) (after rule full k)) ≡ true → ⊥
  unfolding cells_in
  refusal-fails {k} {room} {x} o h f =
      let a = answers rule full law k room h f in
      let e : refused x ≡ given a.0 a.1 a.2 = o.answered ∙ sym a.4.outcome.answered in
      true≢false (let v : true ≡ false = cc in v)

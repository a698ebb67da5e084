-- A loop that calls a search for the next cell, once more than it has room for, meets the portion's promise.
-- Over any rule of cells.
-- Assumes nothing.
use Prim.Native.Nat.{ℕ, suc, ◌+◌, ◌-◌, ◌*◌, ◌/◌, ◌<◌, ◌≤◌}
use mathlib.Core.Path.{◌≡◌, refl, sym, ◌∙◌, ap, ap₂, subst}
use mathlib.Core.Logic.{⊎_elim}
use mathlib.Core.Bool.{Bool, true, false, true≢false}
use mathlib.Core.List.Memᴰ
use mathlib.Core.List.{List, [], ◌∷◌, ◌++◌, append_assoc, append-nil, Memᴰ, nil≢cons, head-eq_of_cons-eq}
use lib.Dec.{ltb}
use lib.ListN.{length, take, length-append}
use lib.Seq.{take_all, take_at, take-append-add}
use native.Mathlib.Omega.{arith}
use native.Mathlib.Nat.{suc-mul, zero-add, le-div_iff_mul-le}
use borrow.Author.Tests.{lt-ltb, le-ltb, le-leb, lt-leb, ltb-true}
use Rattle.base.specs.Lists.{all, leading, spread}
use Rattle.base.specs.Laid.{Laid}
use Rattle.base.proofs.Lay.{laid_none, laid_more, laid_as}
use Rattle.portions.specs.Portions.{rises, Rule, Answer, refused, given, reply, is_after, after, remains, records, last_mark, portion_of, portion, Lawful}
use Rattle.portions.specs.Run.{Outcome}
use Rattle.portions.specs.between.Steps.{Next, Under, Come}
use Rattle.base.proofs.Lists.{both_left, both_right, all-at}
use Rattle.base.proofs.Members.{keep_at, keep-has, keep-none}
use Rattle.portions.proofs.Order.{before_irrefl, before_trans, keep-rises}
use Rattle.portions.proofs.Portions.{records-append, after_first, sized, part_of}

module _ {A : Type 0} (rule : Rule A) (full : List A) (law : Lawful rule full) where
  -- without room for a record
  pub portion-short : (k : List ℕ) (room : ℕ) → room < rule.size → portion rule full k room ≡ reply (refused 11) []
  unfolding portion
  portion-short k room h = rw (lt-ltb room rule.size h)

  -- ── the step ──

  -- what a search says, at the value that a test of its flag tells
  pub next-is : {k : List ℕ} {found said : Bool} {c : A} → found ≡ said → Next rule full k found c → Next rule full k said c
  next-is {k} {c} e x = subst (λ b. Next rule full k b c) e x

  pub next-found : {k : List ℕ} {c : A} → Next rule full k true c → after rule full k ≡ c ∷ after rule full (rule.mark c)
  unfolding after is_after rises
  next-found {k} {c} x = go (after rule full k) refl
    where
      in_after : Memᴰ c (after rule full k)
      in_after = keep-has (is_after rule k) full (x.among refl) (x.later refl)

      go : (l : List A) → after rule full k ≡ l → after rule full k ≡ c ∷ after rule full (rule.mark c)
      go [] e = absurd (Memᴰ.not-nil (subst (Memᴰ c) e in_after))
      go (d ∷ ds) e = e ∙ ap₂ (λ h t. h ∷ t) same (sym (after_first rule full law k c ds (e ∙ ap (λ h. h ∷ ds) same)))
        where
          d_in : Memᴰ d full × (is_after rule k d ≡ true)
          d_in = keep_at (is_after rule k) full (subst (Memᴰ d) (sym e) (Memᴰ.head refl))

          up : rises (λ a b. is_after rule (rule.mark a) b) (d ∷ ds) ≡ true
          up = subst (λ l. rises (λ a b. is_after rule (rule.mark a) b) l ≡ true) e (keep-rises (λ a b. is_after rule (rule.mark a) b) (is_after rule k) full law.rising)

          same : d ≡ c
          same =
              ⊎_elim (λ q. q)
              (λ q. ⊎_elim (λ s. sym s)
              (λ s. absurd (true≢false (sym (before_trans (rule.key (rule.mark c)) (rule.key (rule.mark d)) (rule.key (rule.mark c)) q (all-at (is_after rule (rule.mark d)) ds (both_left _ _ up) s)) ∙ before_irrefl (rule.key (rule.mark c)))))
              (Memᴰ.cases_cons (subst (Memᴰ c) e in_after)))
              (x.least refl d d_in.0 d_in.1)

  pub next-none : {k : List ℕ} {c : A} → Next rule full k false c → after rule full k ≡ []
  unfolding after
  next-none {k} {c} x = keep-none (is_after rule k) full (λ d h. never (is_after rule k d) d refl h)
    where
      never : (b : Bool) (d : A) → is_after rule k d ≡ b → Memᴰ d full → b ≡ false
      never true d e h = absurd (x.none refl d h e)
      never false d e h = refl

  some_one : (c : A) (cs : List A) → ltb 0 (length (c ∷ cs)) ≡ true
  some_one c cs = lt-ltb 0 (length (c ∷ cs)) (omega arith)

  -- what a search found is whether any cell remains
  pub next-remains : {k : List ℕ} {found : Bool} {c : A} → Next rule full k found c → found ≡ remains rule full k
  unfolding remains
  next-remains {found = true} {c = c} x = sym (ap (λ l. ltb 0 (length l)) (next-found x) ∙ some_one c (after rule full (rule.mark c)))
  next-remains {found = false} x = sym (ap (λ l. ltb 0 (length l)) (next-none x))

  -- a cell that comes after the mark remains
  pub later-remains : (k : List ℕ) (d : A) → Memᴰ d full → is_after rule k d ≡ true → remains rule full k ≡ true
  unfolding remains after
  later-remains k d h e = go (after rule full k) (keep-has (is_after rule k) full h e)
    where
      go : (l : List A) → Memᴰ d l → ltb 0 (length l) ≡ true
      go [] h = absurd (Memᴰ.not-nil h)
      go (x ∷ l) h = some_one x l

  none_left : (k : List ℕ) → remains rule full k ≡ false → after rule full k ≡ []
  unfolding remains
  none_left k e = go (after rule full k) e
    where
      go : (l : List A) → ltb 0 (length l) ≡ false → l ≡ []
      go [] e = refl
      go (x ∷ l) e = absurd (true≢false (sym (some_one x l) ∙ e))

  -- two searches that keep this promise say the same
  pub next-same : {k : List ℕ} {f g : Bool} {c d : A} → Next rule full k f c → Next rule full k g d → (f ≡ g) × (f ≡ true → c ≡ d)
  next-same {k} {f} {g} {c} {d} x y = (go f g x y, λ t. head-eq_of_cons-eq (sym (next-found (next-is t x)) ∙ next-found (next-is (sym (go f g x y) ∙ t) y)))
    where
      go : (f g : Bool) → Next rule full k f c → Next rule full k g d → f ≡ g
      go true true x y = refl
      go true false x y = absurd (nil≢cons (sym (next-none y) ∙ next-found x))
      go false true x y = absurd (nil≢cons (sym (next-none x) ∙ next-found y))
      go false false x y = refl

  -- ── the loop ──

  pub under-start : (k : List ℕ) (room : ℕ) → Under rule full k room [] k
  unfolding last_mark
  under-start k room = record { split = refl; fit = refl; within = omega arith; reached = refl }

  last_snoc : (k : List ℕ) (w : List A) (c : A) → last_mark rule k (w ++ (c ∷ [])) ≡ rule.mark c
  unfolding last_mark
  last_snoc k [] c = refl
  last_snoc k (d ∷ w) c = last_snoc (rule.mark d) w c

  all_snoc : (p : A → Bool) (w : List A) (c : A) → all p w ≡ true → p c ≡ true → all p (w ++ (c ∷ [])) ≡ true
  all_snoc p [] c e f = rw f
  all_snoc p (d ∷ w) c e f = rw (both_left (p d) _ e, all_snoc p w c (both_right (p d) _ e) f)

  -- the first at which the test fails
  all_stop : (p : A → Bool) (w : List A) (c : A) (t : List A) → all p w ≡ true → p c ≡ false → all p (w ++ (c ∷ t)) ≡ false
  all_stop p [] c t e f = rw f
  all_stop p (d ∷ w) c t e f = rw (both_left (p d) _ e, all_stop p w c t (both_right (p d) _ e) f)

  leading_stop : (p : A → Bool) (w : List A) (c : A) (t : List A) → all p w ≡ true → p c ≡ false → leading p (w ++ (c ∷ t)) ≡ w
  leading_stop p [] c t e f = rw f
  leading_stop p (d ∷ w) c t e f = rw (both_left (p d) _ e, leading_stop p w c t (both_right (p d) _ e) f)

  -- one more cell is written
  pub under_step : {k : List ℕ} {room : ℕ} {done : List A} {j : List ℕ} {c : A} → Under rule full k room done j → Next rule full j true c → length done < room / rule.size → rule.fits c ≡ true → Under rule full k room (done ++ (c ∷ [])) (rule.mark c)
  under_step {k} {room} {done} {j} {c} u x l f = record {
    split = u.split ∙ ap (λ r. done ++ r) (next-found x) ∙ sym (append_assoc done (c ∷ []) _);
    fit = all_snoc rule.fits done c u.fit f;
    within = rw (length-append done (c ∷ [])) (omega arith);
    reached = sym (last_snoc k done c);
  }

  -- how many entries are written, and that one more record has room
  pub under-size : {k : List ℕ} {room : ℕ} {done : List A} {j : List ℕ} → Under rule full k room done j → length (records rule done) ≡ length done * rule.size
  under-size {k} {room} {done} {j} u = sized rule full law done (part_of rule full law k done _ u.split) u.fit

  pub under-room : {k : List ℕ} {room : ℕ} {done : List A} {j : List ℕ} → Under rule full k room done j → length done < room / rule.size → length done * rule.size + rule.size ≤ room
  under-room {k} {room} {done} u l = rw (← suc-mul (length done) rule.size) ((le-div_iff_mul-le law.some).0 l)

  module _ {k : List ℕ} {room : ℕ} {done : List A} {j : List ℕ} (wide : rule.size ≤ room) (u : Under rule full k room done j) where
    is-first : portion rule full k room ≡ portion_of rule k (done ++ after rule full j) (room / rule.size)
    unfolding portion
    is-first = rw (le-ltb room rule.size wide) (ap (λ l. portion_of rule k l (room / rule.size)) u.split)

    -- no cell is left: the end is told
    pub portion-none : remains rule full j ≡ false → portion rule full k room ≡ reply (given (length done) true rule.end) (records rule done)
    unfolding portion_of
    portion-none x =
        let e : done ++ after rule full j ≡ done = ap (λ r. done ++ r) (none_left j x) ∙ append-nil done in
        is-first ∙ ap (λ l. portion_of rule k l (room / rule.size)) e ∙ rw (take_all (room / rule.size) done u.within, u.fit, le-leb _ _ u.within)

    -- a cell is left and the room is full: the end is not told
    pub portion-full : remains rule full j ≡ true → length done ≡ room / rule.size → portion rule full k room ≡ reply (given (length done) false j) (records rule done)
    unfolding portion_of remains
    portion-full x l =
        let rest = after rule full j in
        let e : length (done ++ rest) ≡ length done + length rest = length-append done rest in
        is-first
        ∙ rw (take_at done rest (room / rule.size) l, u.fit, lt-leb (length (done ++ rest)) (room / rule.size) (omega (arith, ltb-true 0 (length rest) x)), ← u.reached)

    -- a cell is left, with room for it, that no record can hold
    pub portion-long : {c : A} → Next rule full j true c → length done < room / rule.size → rule.fits c ≡ false → portion rule full k room ≡ reply (refused 12) (records rule done)
    unfolding portion_of
    portion-long {c} x l f =
        let rest = after rule full (rule.mark c) in
        let n : ℕ = room / rule.size - suc (length done) in
        let e : room / rule.size ≡ length done + suc n = omega arith in
        let w : take (room / rule.size) (done ++ (c ∷ rest)) ≡ done ++ (c ∷ take n rest) = ap (λ i. take i (done ++ (c ∷ rest))) e ∙ take-append-add done (c ∷ rest) (suc n) in
        is-first
        ∙ ap (λ r. portion_of rule k (done ++ r) (room / rule.size)) (next-found x)
        ∙ rw (w, all_stop rule.fits done c (take n rest) u.fit f, leading_stop rule.fits done c (take n rest) u.fit f)

  -- ── the loop and its room ──

  -- no room for a record: refusal 11, and the room stays
  pub outcome-short : (k old : List ℕ) → length old < rule.size → Outcome rule full k old (refused 11) old
  outcome-short k old h =
      let e = portion-short k (length old) h in
      record { answered = ap (λ p. p.answer) (sym e); stored = laid_none 0 _ old (ap (λ p. p.written) e) (omega arith) }

  pub come_start : (k old : List ℕ) → Come rule full k old k 0 old
  unfolding records spread
  come_start k old = record { done = []; under = under-start k (length old); counted = refl; laid = laid_none 0 [] old refl (omega arith) }

  module _ {k old j : List ℕ} {i : ℕ} {l : List ℕ} (x : Come rule full k old j i l) where
    -- no more records than the room has place for, and where there are fewer, one more fits
    pub come_most : i ≤ length old / rule.size
    come_most = omega (arith, x.counted, x.under.within)

    pub come_room : i < length old / rule.size → i * rule.size + rule.size ≤ length old
    come_room h = ap_room (under-room x.under (omega (arith, x.counted)))
      where
        ap_room : length x.done * rule.size + rule.size ≤ length old → i * rule.size + rule.size ≤ length old
        ap_room g = subst (λ n. n * rule.size + rule.size ≤ length old) x.counted g

    -- one more record is written behind the others
    pub come_step : {found : Bool} {c : A} {l' : List ℕ} → Next rule full j found c → found ≡ true → i < length old / rule.size → rule.fits c ≡ true → Laid (i * rule.size) (rule.entries c) l l' → Come rule full k old (rule.mark c) (i + 1) l'
    unfolding records spread
    come_step {c = c} n t h f d = record {
      done = x.done ++ (c ∷ []);
      under = under_step x.under (next-is t n) (omega (arith, x.counted)) f;
      counted = length-append x.done (c ∷ []) ∙ ap (λ m. m + 1) x.counted;
      laid = laid_more x.laid (i * rule.size) (sym (zero-add (length (records rule x.done)) ∙ under-size x.under ∙ ap (λ m. m * rule.size) x.counted)) d (records-append rule x.done (c ∷ []) ∙ ap (λ r. records rule x.done ++ r) (append-nil (rule.entries c)));
    }

    ends_with : {a b : Answer} → portion rule full k (length old) ≡ reply a (records rule x.done) → a ≡ b → Outcome rule full k old b l
    ends_with e q = record { answered = sym q ∙ ap (λ p. p.answer) (sym e); stored = laid_as x.laid (ap (λ p. p.written) (sym e)) }

    module _ (wide : rule.size ≤ length old) {left : Bool} (n : left ≡ remains rule full j) where
      -- no cell is left: the end is told
      pub outcome-none : left ≡ false → Outcome rule full k old (given i true rule.end) l
      outcome-none t = ends_with (portion-none wide x.under (sym n ∙ t)) (ap (λ m. given m true rule.end) x.counted)

      -- a cell is left and the room is full: the end is not told, and the mark is that of the last cell written
      pub outcome-full : left ≡ true → i ≡ length old / rule.size → Outcome rule full k old (given i false j) l
      outcome-full t h = ends_with (portion-full wide x.under (sym n ∙ t) (x.counted ∙ h)) (ap (λ m. given m false j) x.counted)

    -- a cell is left, with room for it, that no record can hold: refusal 12
    pub outcome-long : rule.size ≤ length old → {found : Bool} {c : A} → Next rule full j found c → found ≡ true → i < length old / rule.size → rule.fits c ≡ false → Outcome rule full k old (refused 12) l
    outcome-long wide n t h f = ends_with (portion-long wide x.under (next-is t n) (omega (arith, x.counted)) f) refl

-- What one portion gives, over any rule of cells: what comes after its marks, what it writes, how many,
-- and what the caller reads.
-- Assumes nothing.
use Prim.Native.Nat.{ℕ, ◌+◌, ◌*◌, ◌/◌, ◌<◌, ◌≤◌}
use mathlib.Core.Path.{◌≡◌, refl, sym, ◌∙◌, ap, ap₂, subst}
use mathlib.Core.Bool.{Bool, true, false, cond, true≢false}
use mathlib.Core.List.Memᴰ
use mathlib.Core.List.{List, [], ◌∷◌, ◌++◌, append_assoc, append-nil, Memᴰ}
use lib.Dec.{leb, ltb}
use lib.ListN.{length, take, drop, length-append, length-take, length-drop, take-append-drop}
use lib.Seq.{take_all, take_at}
use native.Mathlib.Omega.{arith}
use native.Mathlib.Nat.{le-div_iff_mul-le, one-mul, suc-mul, add_comm}
use borrow.Author.Tests.{leb-true, leb-false, le-ltb}
use Rattle.base.specs.Lists.{all, keep, spread, leading}
use Rattle.portions.specs.Portions.{rises, Rule, refused, given, reply, is_after, after, records, last_mark, portion_of, portion, Lawful}
use Rattle.portions.specs.Run.{Outcome, Call, read}
use Rattle.base.specs.Laid.{lay}
use Rattle.base.proofs.Lay.{lay-front, length-lay}
use Rattle.base.proofs.Lists.{both_left, both_right}
use Rattle.base.proofs.Members.{keep_at, keep-keep, keep_all, leading_in, leading-all, leading-short}
use Rattle.portions.proofs.Order.{before_irrefl, before_trans, keep-rises}

module _ {A : Type 0} (rule : Rule A) where
  pub records-append : (xs ys : List A) → records rule (xs ++ ys) ≡ records rule xs ++ records rule ys
  unfolding records spread
  records-append [] ys = refl
  records-append (x ∷ xs) ys = ap (λ l. rule.entries x ++ l) (records-append xs ys) ∙ sym (append_assoc (rule.entries x) _ _)

module _ {A : Type 0} (rule : Rule A) (full : List A) (law : Lawful rule full) where
  -- ── marks ──

  -- what comes after the mark of the first cell after a mark is what comes after that cell
  pub after_first : (k : List ℕ) (c : A) (cs : List A) → after rule full k ≡ c ∷ cs → after rule full (rule.mark c) ≡ cs
  unfolding after is_after keep rises
  after_first k c cs e =
      sym (keep-keep (is_after rule (rule.mark c)) (is_after rule k) weaker full)
      ∙ ap (keep (is_after rule (rule.mark c))) e
      ∙ rw (before_irrefl (rule.key (rule.mark c))) (keep_all (is_after rule (rule.mark c)) cs (both_left (all (is_after rule (rule.mark c)) cs) _ up))
    where
      c_after : is_after rule k c ≡ true
      c_after = (keep_at (is_after rule k) full (subst (Memᴰ c) (sym e) (Memᴰ.head refl))).1

      weaker : (d : A) → is_after rule (rule.mark c) d ≡ true → is_after rule k d ≡ true
      weaker d h = before_trans (rule.key k) (rule.key (rule.mark c)) (rule.key (rule.mark d)) c_after h

      up : rises (λ a b. is_after rule (rule.mark a) b) (c ∷ cs) ≡ true
      up = subst (λ l. rises (λ a b. is_after rule (rule.mark a) b) l ≡ true) e (keep-rises (λ a b. is_after rule (rule.mark a) b) (is_after rule k) full law.rising)

  -- and after the mark of the last of the cells given, what was not given
  pub after_last : (w cs : List A) (k : List ℕ) → after rule full k ≡ w ++ cs → after rule full (last_mark rule k w) ≡ cs
  unfolding last_mark
  after_last [] cs k e = e
  after_last (c ∷ w) cs k e = after_last w cs (rule.mark c) (after_first k c (w ++ cs) e)

  -- ── one portion ──

  pub sized : (w : List A) → ((c : A) → Memᴰ c w → Memᴰ c full) → all rule.fits w ≡ true → length (records rule w) ≡ length w * rule.size
  unfolding records spread
  sized [] f e = omega arith
  sized (c ∷ w) f e =
      length-append (rule.entries c) _
      ∙ ap₂ ◌+◌ (law.sized c (f c (Memᴰ.head refl)) (both_left (rule.fits c) _ e)) (sized w (λ d h. f d (Memᴰ.tail h)) (both_right (rule.fits c) _ e))
      ∙ sym (suc-mul (length w) rule.size ∙ add_comm _ _)

  -- begun at the mark k, a portion gives these cells, says whether none remain, and hands back k'
  pub record Part (k : List ℕ) (cells : List A) (none : Bool) (k' : List ℕ) : Type 0 where
    pub split : after rule full k ≡ cells ++ after rule full k'
    pub fit : all rule.fits cells ≡ true
    pub told : none ≡ true → after rule full k' ≡ []
    pub ended : none ≡ true → k' ≡ rule.end
    pub untold : none ≡ false → (0 < length cells) × (0 < length (after rule full k'))

  -- with place for one cell at least, if it is not refused
  pub part : (k : List ℕ) (most : ℕ) {n : ℕ} {none : Bool} {k' : List ℕ} → 0 < most → (portion_of rule k (after rule full k) most).answer ≡ given n none k' → Part k (take most (after rule full k)) none k' × (n ≡ length (take most (after rule full k)))
  unfolding portion_of
  part k most {n} {none} {k'} h e = go (all rule.fits w) (leb (length cs) most) refl refl e
    where
      cs : List A
      cs = after rule full k

      w : List A
      w = take most cs

      go : (b t : Bool) → all rule.fits w ≡ b → leb (length cs) most ≡ t → (cond b (reply (given (length w) t (cond t rule.end (last_mark rule k w))) (records rule w)) (reply (refused 12) (records rule (leading rule.fits w)))).answer ≡ given n none k' → Part k w none k' × (n ≡ length w)
      go true true f t e =
          let q : k' ≡ rule.end = cc in
          let z : after rule full k' ≡ [] = ap (after rule full) q ∙ law.ended in
          let a : w ≡ cs = take_all most cs (leb-true _ _ t) in (
            record {
              split = sym (append-nil cs) ∙ ap₂ ◌++◌ (sym a) (sym z);
              fit = f;
              told = λ u. z;
              ended = λ u. q;
              untold = λ u. absurd (true≢false (let v : true ≡ false = cc in v));
            },
            cc,
          )
      go true false f t e =
          let q : k' ≡ last_mark rule k w = cc in
          let z : after rule full k' ≡ drop most cs = ap (after rule full) q ∙ after_last w (drop most cs) k (sym (take-append-drop most cs)) in
          let l : most < length cs = leb-false _ _ t in (
            record {
              split = sym (take-append-drop most cs) ∙ ap (λ d. w ++ d) (sym z);
              fit = f;
              told = λ u. absurd (true≢false (let v : true ≡ false = cc in v));
              ended = λ u. absurd (true≢false (let v : true ≡ false = cc in v));
              untold = λ u. (rw (length-take most cs) (omega arith), rw z (rw (length-drop most cs) (omega arith)));
            },
            cc,
          )
      go false t f u e = absurd (true≢false (let v : true ≡ false = cc in v))

  -- a part of the cells after a mark is of the full list
  pub part_of : (k : List ℕ) (w r : List A) → after rule full k ≡ w ++ r → (c : A) → Memᴰ c w → Memᴰ c full
  unfolding after
  part_of k w r e c h = (keep_at (is_after rule k) full (subst (Memᴰ c) (sym e) (Memᴰ.append_left r h))).0

  -- the cells that a room has place for
  unfoldable pub cells_in : List ℕ → List ℕ → List A
  cells_in k room = take (length room / rule.size) (after rule full k)

  -- what a portion writes fits its room, so that an outcome can be had
  pub within : (w : List A) (room : ℕ) → ((c : A) → Memᴰ c w → Memᴰ c full) → all rule.fits w ≡ true → length w ≤ room / rule.size → length (records rule w) ≤ room
  within w room f e h = rw (sized w f e) ((le-div_iff_mul-le law.some).0 h)

  pub written-fits : (k : List ℕ) (room : ℕ) → length (portion rule full k room).written ≤ room
  unfolding portion portion_of
  written-fits k room = go (ltb room rule.size) (all rule.fits w) refl
    where
      cs : List A
      cs = after rule full k

      w : List A
      w = take (room / rule.size) cs

      inside : (c : A) → Memᴰ c w → Memᴰ c full
      inside = part_of k w (drop (room / rule.size) cs) (sym (take-append-drop (room / rule.size) cs))

      short : length w ≤ room / rule.size
      short = rw (length-take (room / rule.size) cs) (omega arith)

      go : (a b : Bool) → all rule.fits w ≡ b → length (cond a (reply (refused 11) []) (cond b (reply (given (length w) (leb (length cs) (room / rule.size)) (cond (leb (length cs) (room / rule.size)) rule.end (last_mark rule k w))) (records rule w)) (reply (refused 12) (records rule (leading rule.fits w))))).written ≤ room
      go true b e = omega arith
      go false true e = within w room inside e short
      go false false e = within (leading rule.fits w) room (λ c h. inside c (leading_in rule.fits w h)) (leading-all rule.fits w) (omega (arith, leading-short rule.fits w, short))

  pub some-outcome : (k room : List ℕ) → Outcome rule full k room (portion rule full k (length room)).answer (lay 0 (portion rule full k (length room)).written room)
  some-outcome k room =
      let w = (portion rule full k (length room)).written in
      let h : 0 + length w ≤ length room = omega (arith, written-fits k (length room)) in
      record { answered = refl; stored = record { room = h; same = length-lay 0 w room h; content = refl } }

  -- one call: what it gives, how many, and what the caller reads
  pub call : (k room : List ℕ) {n : ℕ} {none : Bool} {k' left : List ℕ} → Call rule full k room n none k' left → Part k (cells_in k room) none k' × (n ≡ length (cells_in k room)) × (read rule full n left ≡ records rule (cells_in k room))
  unfolding cells_in portion read portion_of
  call k room {n} {none} {k'} {left} c = (p.0, p.1, got)
    where
      size : ℕ
      size = rule.size

      most : ℕ
      most = length room / size

      cs : List A
      cs = after rule full k

      w : List A
      w = take most cs

      is : portion rule full k (length room) ≡ portion_of rule k cs most
      is = rw (le-ltb (length room) size c.wide)

      p : Part k w none k' × (n ≡ length w)
      p = part k most ((le-div_iff_mul-le law.some).1 (rw (one-mul size) c.wide)) (sym (c.outcome.answered ∙ ap (λ q. q.answer) is))

      wrote : (portion rule full k (length room)).written ≡ records rule w
      wrote = ap (λ q. q.written) is ∙ rw p.0.fit

      long : length (records rule w) ≡ n * size
      long = sized w (part_of k w _ p.0.split) p.0.fit ∙ ap (λ i. i * size) (sym p.1)

      got : take (n * size) left ≡ records rule w
      got =
          ap (take (n * size)) (c.outcome.stored.content ∙ ap (λ l. lay 0 l room) wrote ∙ lay-front (records rule w) room)
          ∙ rw (← long) (take_at (records rule w) _ _ refl)

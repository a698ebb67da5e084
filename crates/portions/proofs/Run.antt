-- What calls one after the other give, over any rule of cells: demand 3.
-- Assumes nothing.
use Prim.Native.Nat.{ℕ, suc, ◌+◌, ◌/◌, ◌<◌, ◌≤◌, max}
use mathlib.Core.Path.{◌≡◌, refl, sym, ◌∙◌, ap, ap₂, subst}
use mathlib.Core.Bool.{Bool, true, false, cond, true≢false}
use mathlib.Core.List.{List, [], ◌∷◌, ◌++◌, append_assoc, append-nil, Memᴰ}
use lib.Dec.{leb}
use lib.ListN.{length, take, drop, length-append, take-append-drop}
use lib.Seq.{take-nil}
use native.Mathlib.Omega.{arith}
use borrow.Author.Tests.{leb-true, le-ltb, le-leb}
use Rattle.base.specs.Lists.{all, spread}
use Rattle.base.specs.Laid.{lay}
use Rattle.base.proofs.Lists.{all-at}
use Rattle.base.proofs.Members.{all_left, all_right, all_both}
use Rattle.portions.specs.Portions.{Rule, given, reply, after, records, last_mark, portion, portion_of, Lawful}
use Rattle.portions.specs.Run.{Call, read, Calls, none, last, more, Promise, Demand3Over}
use Rattle.portions.proofs.Portions.{records-append, cells_in, call, some-outcome}

module _ {A : Type 0} (rule : Rule A) where
  -- with nothing left, what was given is all
  all-given : (got whole : List ℕ) (cs : List A) → cs ≡ [] → got ++ records rule cs ≡ whole → got ≡ whole
  unfolding records spread
  all-given got whole cs z e = sym (append-nil got) ∙ ap (λ l. got ++ records rule l) (sym z) ∙ e

module _ {A : Type 0} (rule : Rule A) (full : List A) (law : Lawful rule full) where
  -- one more call goes at the end, as a loop has it
  calls-one : {j room : List ℕ} {n : ℕ} (over : Bool) {k' left : List ℕ} → Call rule full j room n over k' left → Calls rule full j (room ∷ []) (read rule full n left) over k'
  calls-one true c = last c
  calls-one {j} {room} {n} false {k'} {left} c = subst (λ l. Calls rule full j (room ∷ []) l false k') (append-nil (read rule full n left)) (more c none)

  pub calls-more : {k : List ℕ} {rooms : List (List ℕ)} {got : List ℕ} {was : Bool} {j room : List ℕ} {n : ℕ} {over : Bool} {k' left : List ℕ} → Calls rule full k rooms got was j → was ≡ false → Call rule full j room n over k' left → Calls rule full k (rooms ++ (room ∷ [])) (got ++ read rule full n left) over k'
  calls-more {over} none u c = calls-one over c
  calls-more (last d) u c = absurd (true≢false u)
  calls-more {k} {j} {room} {n} {over} {k'} {left} (more {room = lent} {left = gave} {got} {rooms} {n = m} d r) u c = subst (λ l. Calls rule full k (lent ∷ (rooms ++ (room ∷ []))) l over k') (sym (append_assoc (read rule full m gave) got (read rule full n left))) (more d (calls-more r u c))

  -- while the end is not told, cells are left
  still : {k : List ℕ} {rooms : List (List ℕ)} {got : List ℕ} {over : Bool} {k' : List ℕ} → Calls rule full k rooms got over k' → over ≡ false → 0 < length (after rule full k) → 0 < length (after rule full k')
  still none u h = h
  still (last c) u h = absurd (true≢false u)
  still (more {k} {room} c r) u h = still r u ((call rule full law k room c).0.untold refl).1

  pub calls : {k : List ℕ} {rooms : List (List ℕ)} {got : List ℕ} {over : Bool} {k' : List ℕ} → Calls rule full k rooms got over k' → Promise rule full k rooms got over k'
  calls none = record { whole = refl; complete = λ u. absurd (true≢false (sym u)); fit = λ u. absurd (true≢false (sym u)); told = λ u. absurd (true≢false (sym u)); ended = λ u. absurd (true≢false (sym u)); untold = λ u h. absurd (let z : ⊥ = omega arith in z); few = omega arith }
  calls (last {k} {room} {k'} {left} {n} c) =
      let s = call rule full law k room c in
      let z : after rule full k' ≡ [] = s.0.told refl in
      let e : read rule full n left ++ records rule (after rule full k') ≡ records rule (after rule full k) = ap (λ l. l ++ records rule (after rule full k')) s.2 ∙ sym (records-append rule (cells_in rule full law k room) _) ∙ ap (records rule) (sym s.0.split) in
      record {
        whole = e;
        complete = λ u. all-given rule _ _ _ z e;
        fit = λ u. ap (all rule.fits) (s.0.split ∙ ap (λ l. cells_in rule full law k room ++ l) z ∙ append-nil (cells_in rule full law k room)) ∙ s.0.fit;
        told = λ u. z;
        ended = λ u. s.0.ended refl;
        untold = λ u. absurd (true≢false u);
        few = rw z (omega arith);
      }
  calls (more {k} {room} {j} {left} {got} {k'} {rooms} {n} c r) =
      let s = call rule full law k room c in
      let t = calls r in
      let e : length (after rule full k) ≡ length (cells_in rule full law k room) + length (after rule full j) = ap length s.0.split ∙ length-append (cells_in rule full law k room) (after rule full j) in
      let l : (0 < length (cells_in rule full law k room)) × (0 < length (after rule full j)) = s.0.untold refl in
      let f : length rooms + length (after rule full k') ≤ max 1 (length (after rule full j)) = t.few in
      let g : (read rule full n left ++ got) ++ records rule (after rule full k') ≡ records rule (after rule full k) = append_assoc (read rule full n left) got _ ∙ ap₂ ◌++◌ s.2 t.whole ∙ sym (records-append rule (cells_in rule full law k room) _) ∙ ap (records rule) (sym s.0.split) in
      record {
        whole = g;
        complete = λ u. all-given rule _ _ _ (t.told u) g;
        fit = λ u. ap (all rule.fits) s.0.split ∙ all_both rule.fits (cells_in rule full law k room) (after rule full j) s.0.fit (t.fit u);
        told = t.told;
        ended = t.ended;
        untold = λ u h. still r u l.1;
        few = omega arith;
      }

  -- a call is refused for nothing but the room, or a cell that it has room for
  pub answers : (k room : List ℕ) → rule.size ≤ length room → all rule.fits (cells_in rule full law k room) ≡ true → (n : ℕ) × (over : Bool) × (k' : List ℕ) × (left : List ℕ) × Call rule full k room n over k' left
  unfolding cells_in portion portion_of
  answers k room h f =
      let over : Bool = leb (length (after rule full k)) (length room / rule.size) in
      let o = some-outcome rule full law k room in
      (length (cells_in rule full law k room), over, cond over rule.end (last_mark rule k (cells_in rule full law k room)), lay 0 (portion rule full k (length room)).written room, record { wide = h; outcome = record { answered = sym (rw (le-ltb (length room) rule.size h) (rw f)); stored = o.stored } })

  onward : {k room j left : List ℕ} {n : ℕ} {rooms : List (List ℕ)} → Call rule full k room n false j left → (i : ℕ) × (got : List ℕ) × (k' : List ℕ) × Calls rule full j (take i rooms) got true k' → (i : ℕ) × (got : List ℕ) × (k' : List ℕ) × Calls rule full k (take i (room ∷ rooms)) got true k'
  onward {left} {n} c x = (suc x.0, read rule full n left ++ x.1, x.2, more c x.3)

  -- and if a record can hold each cell after a mark, calls from it come to the end,
  -- with as many rooms as there are cells
  pub reaches : (rooms : List (List ℕ)) (k : List ℕ) → ((room : List ℕ) → Memᴰ room rooms → rule.size ≤ length room) → all rule.fits (after rule full k) ≡ true → max 1 (length (after rule full k)) ≤ length rooms → (i : ℕ) × (got : List ℕ) × (k' : List ℕ) × Calls rule full k (take i rooms) got true k'
  unfolding cells_in
  reaches [] k w f l = absurd (let z : ⊥ = omega arith in z)
  reaches (room ∷ rooms) k w f l =
      let a = answers k room (w room (Memᴰ.head refl)) (all_left rule.fits (cells_in rule full law k room) (drop (length room / rule.size) (after rule full k)) (rw (take-append-drop (length room / rule.size) (after rule full k)) f)) in
      go a.0 a.1 a.2 a.3 a.4 (λ j. reaches rooms j (λ x h. w x (Memᴰ.tail h)))
    where
      go : (n : ℕ) (over : Bool) (j left : List ℕ) → Call rule full k room n over j left → ((j : List ℕ) → all rule.fits (after rule full j) ≡ true → max 1 (length (after rule full j)) ≤ length rooms → (i : ℕ) × (got : List ℕ) × (k' : List ℕ) × Calls rule full j (take i rooms) got true k') → (i : ℕ) × (got : List ℕ) × (k' : List ℕ) × Calls rule full k (take i (room ∷ rooms)) got true k'
      go n true j left c g = (1, _, _, last c)
      go n false j left c g =
          let s = call rule full law k room c in
          let e : length (after rule full k) ≡ length (cells_in rule full law k room) + length (after rule full j) = ap length s.0.split ∙ length-append (cells_in rule full law k room) (after rule full j) in
          let u : (0 < length (cells_in rule full law k room)) × (0 < length (after rule full j)) = s.0.untold refl in
          onward c (g j (all_right rule.fits (cells_in rule full law k room) (after rule full j) (rw (← s.0.split) f)) (omega arith))

  -- at the end mark there is no cell
  pub ends : (room : ℕ) → rule.size ≤ room → portion rule full rule.end room ≡ reply (given 0 true rule.end) []
  unfolding portion portion_of records spread
  ends room h = rw (le-ltb room rule.size h, law.ended, take-nil {A = A} (room / rule.size), le-leb 0 (room / rule.size) (omega arith))

  pub demand3 : Demand3Over rule full
  unfolding cells_in
  demand3 = record {
    listed = λ rooms got k' r.
        let p = calls r in
        let e : length (after rule full rule.start) ≡ length full = ap length law.started in
        (p.complete refl ∙ ap (records rule) law.started, omega (arith, p.few));
    promise = λ k rooms got over k' r. calls r;
    started = law.started;
    ended = ends;
    answers = answers;
    reaches = λ k rooms w. reaches rooms k (λ room h. leb-true _ _ (all-at (λ r. leb rule.size (length r)) rooms w h));
  }

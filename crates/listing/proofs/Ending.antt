-- Calls come to the end: what portions answer over any rule, the code's answers say too. Assumes nothing.
use Prim.Native.Nat.{ℕ, suc, ◌/◌, ◌≤◌, max}
use mathlib.Core.Path.{◌≡◌, refl, sym, ◌∙◌, ap, subst}
use mathlib.Core.Bool.{Bool, true, false, cond}
use mathlib.Core.List.{List, [], ◌∷◌, map, Memᴰ}
use native.Mathlib.Omega.{arith}
use borrow.Author.Tests.{leb-true, le-ltb}
use lib.Dec.{leb}
use lib.ListN.{length, get_or, take, drop, length-take, take-append-drop}
use Rattle.base.specs.Lists.{all, up_to}
use Rattle.base.proofs.Lists.{both_left, both_right}
use Rattle.base.proofs.Members.{all_left}
use Rattle.base.proofs.Loop.{listed}
use Rattle.space.specs.Mesh.{Mesh}
use Rattle.layout.specs.Layout.{vertices, decoded}
use Rattle.arrays.specs.Refusals.{refusals, refusal}
use Rattle.cells.specs.Full.{Cell, full_list}
use Rattle.neighbours.specs.Table.{table_of}
use Rattle.portions.specs.Portions.{given, reply, after, records, last_mark, portion_of, portion}
use Rattle.portions.specs.Run as run
use Rattle.portions.specs.Run.{Outcome, Call, Calls, read}
use Rattle.portions.proofs.Portions.{sized, part_of, cells_in, call}
use Rattle.rule.specs.Rule.{tet_rule}
use Rattle.rule.proofs.Full.{lawful, full_sane, full_demand3}
use Rattle.record.specs.Entries.{corner_places}
use Rattle.record.proofs.Entries.{pad-length}
use Rattle.record.specs.declared.Mark.{Mark}
use Rattle.record.specs.Marks.{mark_of, cell_mark}
use Rattle.records.specs.Marks.{gave}
use Rattle.records.specs.between.Written.{Written}
use Rattle.portioning.specs.Portion.{Portioned}
use Rattle.portioning.proofs.Promised.{bars_none, promised_written}
use Rattle.listing.specs.Demands.{Called, none, last, more}
use Rattle.listing.proofs.File.{accepted-passed}

-- nine numbers are a mark of the code
mark_of_nine : (l : List ℕ) → length l ≡ 9 → (q : Mark) × (mark_of q ≡ l)
mark_of_nine l e = (
  record { kind = get_or l 0 0; a = get_or l 1 0; b = get_or l 2 0; c = get_or l 3 0; d = get_or l 4 0; e = get_or l 5 0; f = get_or l 6 0; g = get_or l 7 0; h = get_or l 8 0 },
  subst (λ n. map (λ i. get_or l i 0) (up_to n) ≡ l) e (listed 0 l),
)

module _ (m : Mesh) where
  -- the mark of a cell has nine, and so has the last of cells that were given from such a mark on
  last-nine : (k : List ℕ) (w : List Cell) → ((c : Cell) → Memᴰ c w → Memᴰ c (full_list m)) → length k ≡ 9 → length (last_mark tet_rule k w) ≡ 9
  unfolding last_mark
  last-nine k [] f e = e
  last-nine k (c ∷ w) f e =
      last-nine (cell_mark c) w (λ d h. f d (Memᴰ.tail h)) (ap suc (pad-length corner_places 0 c.corners (full_sane m (f c (Memᴰ.head refl))).cornered.few))

  -- ---- a call over the rule that is not refused
  module _ {k room : List ℕ} {n : ℕ} {over : Bool} {j left : List ℕ} (c : Call tet_rule (full_list m) k room n over j left) where
    abbrev cells : List Cell
    cells = take (length room / tet_rule.size) (after tet_rule (full_list m) k)

    inside : (d : Cell) → Memᴰ d cells → Memᴰ d (full_list m)
    inside = part_of tet_rule (full_list m) (lawful m) k cells _ (sym (take-append-drop (length room / tet_rule.size) (after tet_rule (full_list m) k)))

    -- it gives as many cells as there is room for
    gives : (none : Bool) × (portion tet_rule (full_list m) k (length room) ≡ reply (given (length cells) none (cond none tet_rule.end (last_mark tet_rule k cells))) (records tet_rule cells))
    unfolding portion portion_of cells_in
    gives = (
      leb (length (after tet_rule (full_list m) k)) (length room / tet_rule.size),
      rw (le-ltb (length room) tet_rule.size c.wide, (call tet_rule (full_list m) (lawful m) k room c).0.fit),
    )

    -- and hands back nine numbers
    hands_nine : length k ≡ 9 → length j ≡ 9
    hands_nine e =
        let said : given n over j ≡ given (length cells) gives.0 (cond gives.0 tet_rule.end (last_mark tet_rule k cells)) = c.outcome.answered ∙ ap (λ p. p.answer) gives.1 in
        let is : j ≡ cond gives.0 tet_rule.end (last_mark tet_rule k cells) = cc in
        ap length is ∙ nine gives.0
      where
        nine : (b : Bool) → length (cond b tet_rule.end (last_mark tet_rule k cells)) ≡ 9
        nine true = refl
        nine false = last-nine k cells inside e

    -- so an answer of the code says the same
    said_so : (q r : Mark) → mark_of q ≡ k → mark_of r ≡ j → Written m (mark_of q) room (gave n over r) left
    unfolding cells_in
    said_so q r d e = subst (λ x. Written m x room (gave n over r) left) (sym d) (record {
      outcome = subst (λ x. Outcome tet_rule (full_list m) k room (given n over x) left) (sym e) c.outcome;
      counted =
          let s = call tet_rule (full_list m) (lawful m) k room c in
          ap (λ p. length p.written) gives.1 ∙ sized tet_rule (full_list m) (lawful m) cells inside s.0.fit ∙ omega (arith, s.1);
    })

-- ---- the calls of an accepted file
module _ (f : List ℕ) (z : refusal f ≡ 0) where
  abbrev suffices : List ℕ → Bool
  suffices table = leb (length (table_of (decoded f) (vertices f))) (length table)

  module _ {k room : List ℕ} {n : ℕ} {over : Bool} {j left : List ℕ} (c : Call tet_rule (full_list (decoded f)) k room n over j left) (q : Mark) (e : mark_of q ≡ k) (table : List ℕ) (h : suffices table ≡ true) where
    next : (r : Mark) × (mark_of r ≡ j)
    next = mark_of_nine j (hands_nine (decoded f) c (ap length (sym e)))

    answered : (table' : List ℕ) × Portioned f (mark_of q) table room (gave n over next.0) table' left
    answered = (
      _,
      promised_written (refusals f) (decoded f) (vertices f) (mark_of q) table room
          (bars_none (refusals f) (decoded f) (vertices f) (accepted-passed f z) (length table) (length room) (leb-true _ _ h) c.wide) refl
          (said_so (decoded f) c q next.0 e next.1),
    )

  -- calls over the rule, from a mark of the code on, are calls of the code
  called : {k : List ℕ} {rooms : List (List ℕ)} {got : List ℕ} {over : Bool} {k' : List ℕ} → Calls tet_rule (full_list (decoded f)) k rooms got over k' → (q : Mark) → mark_of q ≡ k → (tables : List (List ℕ)) → length tables ≡ length rooms → all suffices tables ≡ true → (r : Mark) × Called f q tables rooms got over r
  unfolding read
  called run.none q e [] l h = (q, none)
  called run.none q e (t ∷ ts) l h = absurd (let y : ⊥ = omega arith in y)
  called (run.last c) q e [] l h = absurd (let y : ⊥ = omega arith in y)
  called (run.last c) q e (t ∷ []) l h = (_, last (answered c q e t (both_left (suffices t) _ h)).1)
  called (run.last c) q e (t ∷ (u ∷ ts)) l h = absurd (let y : ⊥ = omega arith in y)
  called (run.more c r) q e [] l h = absurd (let y : ⊥ = omega arith in y)
  called (run.more c r) q e (t ∷ ts) l h =
      let g = both_left (suffices t) _ h in
      let x = next c q e t g in
      let y = called r x.0 x.1 ts (omega arith) (both_right (suffices t) _ h) in
      (y.0, more (answered c q e t g).1 y.1)

pub come_to_end : (f : List ℕ) (k : Mark) (tables rooms : List (List ℕ)) → refusal f ≡ 0 → length tables ≡ length rooms → all (λ table. leb (length (table_of (decoded f) (vertices f))) (length table)) tables ≡ true → all (λ room. leb tet_rule.size (length room)) rooms ≡ true → all tet_rule.fits (after tet_rule (full_list (decoded f)) (mark_of k)) ≡ true → max 1 (length (after tet_rule (full_list (decoded f)) (mark_of k))) ≤ length rooms → (i : ℕ) × (got : List ℕ) × (k' : Mark) × Called f k (take i tables) (take i rooms) got true k'
come_to_end f k tables rooms z s t w g l =
    let r = (full_demand3 (decoded f)).reaches (mark_of k) rooms w g l in
    let i = r.0 in
    let c = called f z r.3 k refl (take i tables) (omega (arith, s, length-take i tables, length-take i rooms)) (all_left (suffices f z) (take i tables) (drop i tables) (rw (take-append-drop i tables) t)) in
    (i, r.1, c.0, c.1)

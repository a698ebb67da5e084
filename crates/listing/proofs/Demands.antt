-- The listing keeps demands 2 and 3, of any file. Assumes nothing.
use Prim.Native.Nat.{ℕ, ◌/◌, ◌≤◌}
use mathlib.Core.Path.{◌≡◌, refl, sym, ◌∙◌, ap}
use mathlib.Core.Bool.{Bool, true, false, true≢false}
use mathlib.Core.List.{List, ◌++◌}
use native.Mathlib.Omega.{arith}
use native.Mathlib.Decide.{dec_lt}
use borrow.Author.Tests.{ne_eqb}
use lib.ListN.{length, take, drop}
use Rattle.base.specs.Lists.{all}
use Rattle.base.specs.Refusals.{Refusal}
use Rattle.base.proofs.Lay.{lay-front}
use Rattle.space.specs.Mesh.{Mesh}
use Rattle.layout.specs.Layout.{vertices, decoded}
use Rattle.arrays.specs.Refusals.{refusals}
use Rattle.cells.specs.Full.{full_list}
use Rattle.exactly_once.proofs.Once.{once}
use Rattle.portions.specs.Portions.{portion, given, refused, after, records}
use Rattle.portions.specs.Run as run
use Rattle.portions.specs.Run.{Outcome, Calls, read}
use Rattle.portions.proofs.Portions.{some-outcome}
use Rattle.portions.proofs.Run.{calls, ends}
use Rattle.portions.proofs.Firm.{outcome-call, refusal-fails, calls-tell}
use Rattle.rule.specs.Rule.{tet_rule}
use Rattle.rule.proofs.Full.{after_above, lawful, telling}
use Rattle.record.specs.declared.Mark.{Mark}
use Rattle.record.specs.Marks.{mark_of, mark_corners}
use Rattle.std.specs.Prelude.{Ok, Err}
use Rattle.records.specs.Marks.{Answer, gave, says, answer_number}
use Rattle.portioning.specs.Portion.{barred, portion_by, Promised}
use Rattle.listing.specs.Demands.{Demand2, Demand3, Called, none, last, more}
use Rattle.portioning.proofs.Promised.{bars_none}
use Rattle.listing.proofs.File.{accepted-passed}
use Rattle.listing.proofs.Ending.{come_to_end}

-- ---- a call that is not refused early

module _ {rs : List Refusal} {m : Mesh} {n : ℕ} {k table room table' left : List ℕ} {a : Answer} (p : Promised rs m n k table room a table' left) where
  pub passed : barred rs m n (length table) (length room) ≡ 0 → Outcome tet_rule (full_list m) k room (says a) left
  unfolding portion_by
  passed e =
      let w = (portion tet_rule (full_list m) k (length room)).written in
      let s : left ≡ w ++ drop (length w) room = rw e at p.stored in
      let q : says a ≡ (portion tet_rule (full_list m) k (length room)).answer = rw e at p.answered in
      let o = (some-outcome tet_rule (full_list m) (lawful m) k room).stored in
      record {
        answered = q;
        stored = rw (s ∙ sym (lay-front w room)) o;
      }

pub given-outcome : {rs : List Refusal} {m : Mesh} {n : ℕ} {k table room table' left : List ℕ} {c : ℕ} {b : Bool} {k' : Mark} → Promised rs m n k table room (gave c b k') table' left → Outcome tet_rule (full_list m) k room (given c b (mark_of k')) left
unfolding portion_by
given-outcome {rs} {m} {n} {k} {table} {room} {table'} {left} {c} {b} {k'} p = elim (dec_lt 0 (barred rs m n (length table) (length room))) [
  | yes h ↦
      let d : given c b (mark_of k') ≡ refused (barred rs m n (length table) (length room)) = p.answered ∙ rw (ne_eqb (barred rs m n (length table) (length room)) 0 (λ e. omega arith)) in
      absurd (true≢false (let v : true ≡ false = cc in v))
  | no h ↦ passed p (omega arith)
]

-- ---- the demands

pub demand2 : (f : List ℕ) → Demand2 f
demand2 f e = once (decoded f)

module _ (f : List ℕ) where
  called_calls : {k k' : Mark} {tables rooms : List (List ℕ)} {got : List ℕ} {over : Bool} → Called f k tables rooms got over k' → Calls tet_rule (full_list (decoded f)) (mark_of k) rooms got over (mark_of k')
  unfolding read
  called_calls none = run.none
  called_calls (last p) = run.last (outcome-call tet_rule (full_list (decoded f)) (lawful (decoded f)) (given-outcome p))
  called_calls (more p r) = run.more (outcome-call tet_rule (full_list (decoded f)) (lawful (decoded f)) (given-outcome p)) (called_calls r)

  all_after : (s : Mark) → s.kind ≡ 65535 → after tet_rule (full_list (decoded f)) (mark_of s) ≡ full_list (decoded f)
  all_after s e = after_above (decoded f) s.kind (mark_corners s) (omega arith)

  answered : (a : Answer) {k room left : List ℕ} → Outcome tet_rule (full_list (decoded f)) k room (says a) left → tet_rule.size ≤ length room → all tet_rule.fits (take (length room / tet_rule.size) (after tet_rule (full_list (decoded f)) k)) ≡ true → answer_number a ≡ 0
  answered (Err x) o h g = absurd (refusal-fails tet_rule (full_list (decoded f)) (lawful (decoded f)) o h g)
  answered (Ok x) o h g = refl

  pub demand3 : Demand3 f
  demand3 = record {
    listed = λ {s} e r.
        let c = called_calls r in
        let p = calls tet_rule (full_list (decoded f)) (lawful (decoded f)) c in
        let w = all_after s e in (
          p.complete refl ∙ ap (records tet_rule) w,
          (
            rw w at (calls-tell tet_rule (full_list (decoded f)) (lawful (decoded f)) (telling (decoded f)) c),
            (let l = rw w at p.few in omega (arith, l)),
          ),
        );
    promise = λ r. calls tet_rule (full_list (decoded f)) (lawful (decoded f)) (called_calls r);
    answers = λ {k} {table} {room} {table'} {left} {a} z t w p g. answered a (passed p (bars_none (refusals f) (decoded f) (vertices f) (accepted-passed f z) (length table) (length room) t w)) w g;
    ended = λ {table} {room} {table'} {left} {a} z t w p.
        let o = passed p (bars_none (refusals f) (decoded f) (vertices f) (accepted-passed f z) (length table) (length room) t w) in
        let e = ends tet_rule (full_list (decoded f)) (lawful (decoded f)) (length room) w in
        (o.answered ∙ ap (λ q. q.answer) e, o.stored.content ∙ lay-front (portion tet_rule (full_list (decoded f)) tet_rule.end (length room)).written room ∙ ap (λ q. q.written ++ drop (length q.written) room) e);
    reaches = come_to_end f;
  }

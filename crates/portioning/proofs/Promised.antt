-- What is promised of a call that one of refusals 1 to 11 bars, and of one that none does. Assumes nothing.
use mathlib.Core.Path.{◌≡◌, refl, sym, ◌∙◌}
use mathlib.Core.List.{List, [], ◌∷◌, ◌++◌}
use Prim.Native.Nat.{ℕ, ◌<◌, ◌≤◌}
use native.Mathlib.Omega.{arith}
use borrow.Author.Tests.{lt-ltb, le-ltb, ne_eqb}
use lib.Dec.{ltb}
use lib.ListN.{length, drop}
use Rattle.base.specs.Refusals.{Refusal, refuse, first_of}
use Rattle.base.proofs.Refusals.{told, past, none_left, Passed, first_past, first-told}
use Rattle.base.proofs.Lay.{lay-front}
use Rattle.space.specs.Mesh.{Mesh}
use Rattle.cells.specs.Full.{full_list}
use Rattle.neighbours.specs.Table.{table_of}
use Rattle.portions.specs.Portions.{portion}
use Rattle.rule.specs.Rule.{tet_rule}
use Rattle.record.specs.Entries.{record_size}
use Rattle.refusals.specs.declared.Refusal.{Refusal as Refused}
use Rattle.refusals.specs.Named.{number_of}
use Rattle.refusals.proofs.Named.{number_above}
use Rattle.records.specs.Marks.{Answer, barred_by}
use Rattle.records.specs.between.Written.{Written}
use Rattle.records.proofs.Same.{answer-same}
use Rattle.portioning.specs.Portion.{barred, portion_by, table_left, Promised}

-- 10 and 11
abbrev of_rooms : Mesh → ℕ → ℕ → ℕ → List Refusal
of_rooms m n table room = refuse 10 (ltb table (length (table_of m n))) ∷ refuse 11 (ltb room tet_rule.size) ∷ []

module _ (rs : List Refusal) (m : Mesh) (n : ℕ) where
  -- ---- which refusal applies

  pub bars_file : (table room : ℕ) → 0 < first_of rs → barred rs m n table room ≡ first_of rs
  unfolding barred
  bars_file table room h = first-told rs (of_rooms m n table room) h

  module _ (p : Passed rs) (table room : ℕ) where
    bars_rest : barred rs m n table room ≡ first_of (of_rooms m n table room)
    unfolding barred
    bars_rest = first_past rs (of_rooms m n table room) p

    pub bars_past : barred rs m n table room ≡ barred [] m n table room
    unfolding barred
    bars_past = first_past rs (of_rooms m n table room) p

    pub bars_table : table < length (table_of m n) → barred rs m n table room ≡ 10
    bars_table h = bars_rest ∙ sym (told refl 10 _ (lt-ltb table (length (table_of m n)) h))

    pub bars_room : length (table_of m n) ≤ table → room < record_size → barred rs m n table room ≡ 11
    bars_room h l = bars_rest ∙ sym (past refl 10 _ (le-ltb table (length (table_of m n)) h) (told refl 11 _ (lt-ltb room record_size l)))

    pub bars_none : length (table_of m n) ≤ table → record_size ≤ room → barred rs m n table room ≡ 0
    bars_none h l =
        bars_rest ∙ sym (past refl 10 _ (le-ltb table (length (table_of m n)) h) (past refl 11 _ (le-ltb room record_size l) none_left))

  -- ---- what is promised

  module _ (k table room : List ℕ) where
    -- a refusal from 1 to 11
    pub promised_refused : {table' : List ℕ} (r : Refused) → barred rs m n (length table) (length room) ≡ number_of r → table' ≡ table → Promised rs m n k table room (barred_by r 0) table' room
    unfolding portion_by table_left
    promised_refused r e t =
        let f = ne_eqb (number_of r) 0 (λ z. omega (arith, number_above r)) in
        record {
          answered = rw (e, f);
          counted = rw (e, f);
          tabled = rw (e, f) t;
          stored = rw (e, f);
        }

    -- no such refusal
    pub promised_written : {a : Answer} {table' left : List ℕ} → barred rs m n (length table) (length room) ≡ 0 → table' ≡ table_of m n ++ drop (length (table_of m n)) table → Written m k room a left → Promised rs m n k table room a table' left
    unfolding portion_by table_left
    promised_written {a} {table'} {left} e t w =
        record {
          answered = rw e w.outcome.answered;
          counted = rw e (sym w.counted);
          tabled = rw e t;
          stored = rw e (w.outcome.stored.content ∙ lay-front (portion tet_rule (full_list m) k (length room)).written room);
        }

    -- what is promised of a mesh is promised of a file that is not refused
    pub promised_past : {a : Answer} {table' left : List ℕ} → Passed rs → Promised [] m n k table room a table' left → Promised rs m n k table room a table' left
    unfolding portion_by table_left
    promised_past p h =
        let e = bars_past p (length table) (length room) in
        record {
          answered = rw e h.answered;
          counted = rw e h.counted;
          tabled = rw e h.tabled;
          stored = rw e h.stored;
        }

-- two outcomes that the promise permits coincide: the answer, the table and the room
pub one-outcome : {rs : List Refusal} {m : Mesh} {n : ℕ} {k table room : List ℕ} {a b : Answer} {t u r s : List ℕ} → Promised rs m n k table room a t r → Promised rs m n k table room b u s → (a ≡ b) × ((t ≡ u) × (r ≡ s))
one-outcome {a = a} {b = b} p q = (
  answer-same a b (p.answered ∙ sym q.answered) (omega (arith, p.counted, q.counted)),
  (p.tabled ∙ sym q.tabled, p.stored ∙ sym q.stored),
)

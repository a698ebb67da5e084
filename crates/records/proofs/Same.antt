-- The promise of a portion leaves one answer and one content of the room.
-- Assumes nothing.
use Prim.Native.Nat.{ℕ}
use mathlib.Core.Path.{◌≡◌, sym, ◌∙◌, ap}
use mathlib.Core.Bool.{Bool, true, false, true≢false}
use mathlib.Core.List.{List, []}
use lib.ListN.{get_or}
use native.Mathlib.Omega.{arith}
use Rattle.space.specs.Mesh.{Mesh}
use Rattle.portions.specs.Portions as portions
use Rattle.portions.specs.Portions.{refused, given}
use Rattle.record.specs.declared.Mark.{Mark}
use Rattle.record.specs.Marks.{mark_of}
use Rattle.std.specs.Prelude.{Result, Ok, Err, IsErrAnd}
use Rattle.refusals.specs.declared.Refusal.{Refusal}
use Rattle.refusals.proofs.Named.{name_same}
use Rattle.records.specs.Marks.{Answer, barred_by, says, wrote}
use Rattle.records.specs.declared.Refused.{Refused}
use Rattle.records.specs.between.Written.{Written}

-- the parts of what is said; a default where it has none
abbrev refusal : portions.Answer → ℕ
refusal (refused k) = k
refusal (given c n k) = 0

abbrev is_given : portions.Answer → Bool
is_given (refused k) = false
is_given (given c n k) = true

abbrev is_none : portions.Answer → Bool
is_none (refused k) = false
is_none (given c n k) = n

abbrev mark_said : portions.Answer → List ℕ
mark_said (refused k) = []
mark_said (given c n k) = k

-- the mark of nine numbers
abbrev mark_by : List ℕ → Mark
mark_by l = record { kind = get_or l 0 0; a = get_or l 1 0; b = get_or l 2 0; c = get_or l 3 0; d = get_or l 4 0; e = get_or l 5 0; f = get_or l 6 0; g = get_or l 7 0; h = get_or l 8 0 }

mark-same : (m k : Mark) → mark_of m ≡ mark_of k → m ≡ k
mark-same m k e = ap mark_by e

-- an answer by what it says and how many records it tells
pub answer-same : (a b : Answer) → says a ≡ says b → wrote a ≡ wrote b → a ≡ b
answer-same (Err x) (Err y) e n = let r = name_same x.refusal y.refusal (ap refusal e) in λ i. Err (record { refusal = r i; written = n i })
answer-same (Err x) (Ok g) e n = absurd (true≢false (sym (ap is_given e)))
answer-same (Ok g) (Err x) e n = absurd (true≢false (ap is_given e))
answer-same (Ok g) (Ok h) e n =
    let b = ap is_none e in
    let k = mark-same g.mark h.mark (ap mark_said e) in
    λ i. Ok (record { count = n i; none_remain = b i; mark = k i })

pub written_one : {m : Mesh} {k room : List ℕ} {a b : Answer} {left right : List ℕ} → Written m k room a left → Written m k room b right → (a ≡ b) × (left ≡ right)
written_one {a = a} {b = b} x y = (answer-same a b (x.outcome.answered ∙ sym y.outcome.answered) (omega (arith, x.counted, y.counted)), x.outcome.stored.content ∙ sym y.outcome.stored.content)

-- a refusal before which nothing was written
pub refused_is : {r : Refusal} {n : ℕ} (x : Refused) → x.refusal ≡ r → x.written ≡ n → Err x ≡ barred_by r n
refused_is x p q = λ i. Err (record { refusal = p i; written = q i })

-- `?` hands a refusal on with nothing written
pub refused_on : {A : Type 0} (x : Result A Refused) (r : Refusal) → IsErrAnd x (λ y. (y.refusal ≡ r) × (y.written ≡ 0)) → x ≡ Err (record { refusal = r; written = 0 })
refused_on (Ok a) r h = absurd h
refused_on (Err y) r h = λ i. Err (record { refusal = h.0 i; written = h.1 i })

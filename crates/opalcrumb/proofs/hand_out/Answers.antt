-- `opalcrumb::hand_out` meets its contract. Assumes nothing.
use mathlib.Core.Path.{◌≡◌, refl, sym, ap, ◌∙◌}
use mathlib.Core.Bool.{Bool, true, false, cond}
use Prim.Native.Nat.{ℕ, ◌%◌}
use mir.Val.{bool_byte}
use borrow.Author.Tests.{eq-eqb, ne_eqb}
use Rattle.refusals.specs.declared.Refusal.{Refusal}
use Rattle.refusals.specs.Named.{number_of}
use Rattle.records.specs.Marks.{Answer, barred_by, answer_number}
use Rattle.opalcrumb.specs.Boundary.{mark_left, count_left, end_left}
use Rattle.opalcrumb.proofs.hand_out.Goals as goal

-- a bool as a number
byte_is : (b : Bool) → bool_byte b ≡ cond b 1 0
byte_is true = refl
byte_is false = refl

-- the count on refusal 12, and on any other
count-told : (o : Answer) {r : Refusal} {n : ℕ} (old : ℕ) → barred_by r n ≡ o → number_of r ≡ 12 → n % 4294967296 ≡ count_left o old
count-told o {r} {n} old v e =
    let q : n % 4294967296 ≡ count_left (barred_by r n) old = rw (eq-eqb (number_of r) 12 e) in
    q ∙ ap (λ a. count_left a old) v

count-stays : (o : Answer) {r : Refusal} {n : ℕ} (old : ℕ) → barred_by r n ≡ o → (number_of r ≡ 12 → ⊥) → old ≡ count_left o old
count-stays o {r} {n} old v e =
    let q : old ≡ count_left (barred_by r n) old = rw (ne_eqb (number_of r) 12 e) in
    q ∙ ap (λ a. count_left a old) v

pub returns-then-number-eq12 : goal.returns-then-number-eq12
returns-then-number-eq12 c = let a = c.args in let v = sym c.in-Err.is in let t = sym c.from-number.ensures ∙ c.if-number-eq12.true in
    record { number = sym t ∙ ap answer_number v; mark = ap (λ o. mark_left o a.mark.now) v; count = count-told _ a.count.now v t; end = ap (λ o. end_left o a.end.now) v }

pub returns-else-number-eq12 : goal.returns-else-number-eq12
returns-else-number-eq12 c = let a = c.args in let v = sym c.in-Err.is in
    record { number = c.from-number.ensures ∙ ap answer_number v; mark = ap (λ o. mark_left o a.mark.now) v; count = count-stays _ a.count.now v (λ e. c.if-number-eq12.false (c.from-number.ensures ∙ e)); end = ap (λ o. end_left o a.end.now) v }

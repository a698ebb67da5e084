-- A turn moves the last of the digits that are still to put to the front of those that stand.
use native.Mathlib.Omega.{arith}
use mathlib.Core.Path.{◌≡◌, refl, sym, ap, subst, ◌∙◌}
use mathlib.Core.List.{List, [], ◌∷◌, ◌++◌, append-nil}
use Prim.Native.Nat.{ℕ, zero, suc, ◌+◌, ◌-◌, ◌/◌, ◌%◌, ◌≤◌, ◌<◌}
use lib.ListN.{length, take, drop, set}
use lib.Seq.{slice, slice_empty, length-take-le, take-set-lt, append_snoc}
use native.Mathlib.Nat.{le_of_suc-le-suc, not-suc-le-zero}
use native.Mathlib.Numerals.{sub-one}
use Rattle.lines.specs.Text.{last_digits}
use Rattle.lines.proofs.put_digits.Goals as goal

drop-set : (t : List ℕ) (j g : ℕ) → j < length t → drop j (set t j g) ≡ g ∷ drop (suc j) t
drop-set [] j g h = absurd (not-suc-le-zero h)
drop-set (x ∷ xs) zero g h = refl
drop-set (x ∷ xs) (suc j) g h = drop-set xs j g (le_of_suc-le-suc h)

digits_step : (i k rest g : ℕ) (out : List ℕ) → 0 < i → i ≤ k → k ≤ length out → g ≡ 48 + rest % 10
    → last_digits (i - 1) (rest / 10) ++ slice (i - 1) k (set out (i - 1) g) ≡ last_digits i rest ++ slice i k out
digits_step zero k rest g out some h room e = absurd (not-suc-le-zero some)
digits_step (suc j) k rest g out some h room e =
    let todo = last_digits j (rest / 10) in
    let done = slice (suc j) k out in
    let within : j < length (take k out) = subst (λ (n : ℕ). j < n) (sym (length-take-le k out room)) h in
    ap (λ (m : ℕ). last_digits m (rest / 10) ++ slice m k (set out m g)) (sub-one (suc j))
    ∙ ap (λ (l : List ℕ). todo ++ drop j l) (take-set-lt k out j g h)
    ∙ ap (λ (l : List ℕ). todo ++ l) (drop-set (take k out) j g within)
    ∙ ap (λ (x : ℕ). todo ++ x ∷ done) e
    ∙ sym (append_snoc todo (48 + rest % 10) done)

pub loop-i-init : goal.loop-i-init
loop-i-init c =
    let a = c.args in
    let all = last_digits a.k a.x in
    ap (λ (l : List ℕ). all ++ l) (slice_empty a.k a.out.now) ∙ append-nil all

pub loop-i-preserved : goal.loop-i-preserved
loop-i-preserved c =
    let l = c.loop-i in
    digits_step l.i c.args.k l.rest _ l.out (omega arith) (omega arith) (omega arith) refl ∙ l.invariant

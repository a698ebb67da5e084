-- Condition 1 by places: each vertex is below n and stands at no earlier place.
-- Assumes nothing.
use Prim.Native.Nat.{ℕ, suc}
use mathlib.Core.Path.{◌≡◌, refl, sym, ◌∙◌, ap, ap₂}
use mathlib.Core.Bool.{Bool, true, false, not, ◌&&◌, ◌||◌}
use mathlib.Core.List.{List, [], ◌∷◌, ◌++◌, append_assoc}
use native.Mathlib.Omega.{arith}
use borrow.Author.Tests.{eq-eqb, eqb-true}
use lib.Dec.{eqb, ltb}
use lib.ListN.{length, length-append}
use lib.Seq.{get_or-append_seam, take_at}
use Rattle.base.specs.Lists.{all, from, up_to, is_in, distinct}
use Rattle.base.proofs.Bools.{and-true}
use Rattle.base.proofs.Runs.{any_snoc}
use Rattle.space.specs.Mesh.{Mesh}
use Rattle.templates.specs.Tables.{Template}
use Rattle.templates.proofs.Tests.{agree}
use Rattle.cells.specs.Cells.{is_tuple}
use Rattle.reasons.specs.Reason.{is_new}

eqb_sym : (x y : ℕ) → eqb x y ≡ eqb y x
eqb_sym x y = agree _ _ (λ e. eq-eqb y x (sym (eqb-true x y e))) (λ e. eq-eqb x y (sym (eqb-true y x e)))

-- one number more that none may be
apart : (a b n q : Bool) → (not (a || b) && (n && not q)) ≡ (not a && n && not (b || q))
apart true b n q = refl
apart false true true q = refl
apart false true false q = refl
apart false false n q = refl

none_more : (xs : List ℕ) (x : ℕ) (ys : List ℕ) → all (λ v. not (is_in v (xs ++ (x ∷ [])))) ys ≡ (all (λ v. not (is_in v xs)) ys && not (is_in x ys))
none_more xs x [] = refl
none_more xs x (y ∷ ys) =
    ap₂ (λ a b. not a && b) (any_snoc (eqb y) xs x ∙ ap (λ b. is_in y xs || b) (eqb_sym y x)) (none_more xs x ys)
    ∙ apart (is_in y xs) (eqb x y) (all (λ v. not (is_in v xs)) ys) (is_in x ys)

shuffle : (a p b d n q : Bool) → (a && not p && (b && d && (n && not q))) ≡ (a && b && (not q && d) && (not p && n))
shuffle false p b d n q = refl
shuffle true true true true n true = refl
shuffle true true true true n false = refl
shuffle true true true false n true = refl
shuffle true true true false n false = refl
shuffle true true false d n q = refl
shuffle true false false d n q = refl
shuffle true false true false n true = refl
shuffle true false true false n false = refl
shuffle true false true true true true = refl
shuffle true false true true true false = refl
shuffle true false true true false true = refl
shuffle true false true true false false = refl

longer : (s : List ℕ) (x : ℕ) → suc (length s) ≡ length (s ++ (x ∷ []))
longer s x = omega (arith, length-append s (x ∷ []))

here_new : (n : ℕ) (s : List ℕ) (x : ℕ) (ys : List ℕ) → is_new n (s ++ (x ∷ ys)) (length s) ≡ (ltb x n && not (is_in x s))
unfolding is_new
here_new n s x ys = rw (get_or-append_seam s x ys 0, take_at s (x ∷ ys) (length s) refl)

-- the numbers xs after the numbers s
after : (n : ℕ) (s xs : List ℕ) → all (is_new n (s ++ xs)) (from (length s) (length xs)) ≡ (all (λ v. ltb v n) xs && distinct xs && all (λ v. not (is_in v s)) xs)
after n s [] = refl
after n s (x ∷ ys) =
    ap₂ (λ a b. a && b) (here_new n s x ys)
    (ap₂ (λ c k. all (is_new n c) (from k (length ys))) (sym (append_assoc s (x ∷ []) ys)) (longer s x)
    ∙ after n (s ++ (x ∷ [])) ys
    ∙ ap (λ b. all (λ v. ltb v n) ys && distinct ys && b) (none_more s x ys))
    ∙ shuffle (ltb x n) (is_in x s) (all (λ v. ltb v n) ys) (distinct ys) (all (λ v. not (is_in v s)) ys) (is_in x ys)

none_in : (xs : List ℕ) → all (λ v. not (is_in v [])) xs ≡ true
none_in [] = refl
none_in (x ∷ xs) = none_in xs

pub tuple-new : (m : Mesh) (t : Template) (c : List ℕ) → length c ≡ t.corners → is_tuple m t c ≡ all (is_new (length m.points) c) (up_to t.corners)
unfolding is_tuple
tuple-new m t c l =
    let n = length m.points in
    rw (eq-eqb (length c) t.corners l)
    (sym (and-true (all (λ v. ltb v n) c && distinct c))
    ∙ ap (λ b. all (λ v. ltb v n) c && distinct c && b) (sym (none_in c))
    ∙ sym (after n [] c)
    ∙ ap (λ k. all (is_new n c) (up_to k)) l)

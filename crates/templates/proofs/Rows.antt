-- A test at each row of a table, as `all` and `any` of a range make it. Assumes nothing.
use mathlib.Core.Path.{◌≡◌, refl, ◌∙◌, ap}
use mathlib.Core.Bool.{Bool, true, false, ◌&&◌, ◌||◌}
use mathlib.Core.List.{List, [], ◌∷◌, map}
use Prim.Native.Nat.{ℕ, zero, suc, ◌+◌}
use native.Mathlib.Omega.{arith}
use denote.Ref.{Bor}
use denote.Param.Members.{Mut}
use Rattle.std.specs.declared.slice.Iter.{Iter}
use Rattle.std.specs.Slice.Iter.{iter_rest}
use Rattle.std.specs.declared.option.Option.{Option}
use Rattle.std.specs.declared.ops.Range.{Range}
use Rattle.std.specs.Fn.{Called}
use Rattle.std.specs.Iterator.{YieldsThen}
use Rattle.std.specs.List.{FoldsTo}
use Rattle.std.specs.Option.{MatchOption}
use Rattle.std.proofs.iter.Yields.{nat_range_steps, fronts}
use Rattle.std.proofs.lemmas.Iterator.{YieldsList-from_range, YieldsList-from_slice}
use Rattle.std.proofs.lemmas.Iterator.Search.{all_from_yields_List, any_from_yields_List}
use Rattle.std.specs.List.{list_all, list_any, range_with_len}
use Rattle.base.specs.Lists.{all, any, from, up_to}

-- the numbers of a range
numbers : (i n : ℕ) → range_with_len i n ≡ from i n
numbers i zero = refl
numbers i (suc n) = let e : i + 1 ≡ suc i = omega arith in ap (λ k. i ∷ range_with_len k n) e ∙ ap (λ l. i ∷ l) (numbers (suc i) n)

module _ {A : Type 0} (p : A → Bool) (f : ℕ → A) where
  all-map : (is : List ℕ) → list_all (λ k. p (f k)) is ≡ all p (map f is)
  all-map [] = refl
  all-map (i ∷ is) = ap (λ b. p (f i) && b) (all-map is)

  any-map : (is : List ℕ) → list_any (λ k. p (f k)) is ≡ any p (map f is)
  any-map [] = refl
  any-map (i ∷ is) = ap (λ b. p (f i) || b) (any-map is)

  all-rows : (n : ℕ) → list_all (λ k. p (f k)) (range_with_len 0 n) ≡ all p (map f (up_to n))
  all-rows n = ap (list_all (λ k. p (f k))) (numbers 0 n) ∙ all-map (up_to n)

  any-rows : (n : ℕ) → list_any (λ k. p (f k)) (range_with_len 0 n) ≡ any p (map f (up_to n))
  any-rows n = ap (list_any (λ k. p (f k))) (numbers 0 n) ∙ any-map (up_to n)

-- a closure t that makes the test p at row k, and leaves what it holds, in `(0..n).all(t)` and `(0..n).any(t)`
module _ {A F : Type 0} {g : Mut F (ℕ × Unit {0}) Bool} (p : A → Bool) (f : ℕ → A) (n : ℕ) {u : Range ℕ} {t : F} {r : Bool} where
  pub all_rows : (xs : List ℕ) × (o : Option ℕ) × (j : F) × YieldsThen nat_range_steps (record { start = 0; end = n }) xs o u × FoldsTo (λ p x q. Called g p (x, tt) true q) t xs j × MatchOption o (r ≡ true) (λ x. (r ≡ false) × ((h : F) × Called g j (x, tt) false h))
      → ((x : ℕ) (b : Bool) (q : F) → Called g t (x, tt) b q → (q ≡ t) × (b ≡ p (f x))) → r ≡ all p (map f (up_to n))
  all_rows d k = all_from_yields_List (λ x. p (f x)) u t r d (YieldsList-from_range 0 n n refl (omega arith)) k ∙ all-rows p f n

  pub any_rows : (xs : List ℕ) × (o : Option ℕ) × (j : F) × YieldsThen nat_range_steps (record { start = 0; end = n }) xs o u × FoldsTo (λ p x q. Called g p (x, tt) false q) t xs j × MatchOption o (r ≡ false) (λ x. (r ≡ true) × ((h : F) × Called g j (x, tt) true h))
      → ((x : ℕ) (b : Bool) (q : F) → Called g t (x, tt) b q → (q ≡ t) × (b ≡ p (f x))) → r ≡ any p (map f (up_to n))
  any_rows d k = any_from_yields_List (λ x. p (f x)) u t r d (YieldsList-from_range 0 n n refl (omega arith)) k ∙ any-rows p f n

all-of : {A : Type 0} (p : A → Bool) (xs : List A) → list_all p xs ≡ all p xs
all-of p [] = refl
all-of p (x ∷ xs) = ap (λ b. p x && b) (all-of p xs)

-- the same in `ys.iter().all(t)`
module _ {A F : Type 0} {g : Mut F (Bor A × Unit {0}) Bool} (p : A → Bool) (ys : List A) {s u : Iter A} {t : F} {r : Bool} where
  pub all_of : iter_rest s ≡ ys
      → (xs : List (Bor A)) × (o : Option (Bor A)) × (j : F) × YieldsThen fronts s xs o u × FoldsTo (λ p x q. Called g p (x, tt) true q) t xs j × MatchOption o (r ≡ true) (λ x. (r ≡ false) × ((h : F) × Called g j (x, tt) false h))
      → ((x : Bor A) (b : Bool) (q : F) → Called g t (x, tt) b q → (q ≡ t) × (b ≡ p x.now)) → r ≡ all p ys
  all_of e d k = all_from_yields_List p u t r d (YieldsList-from_slice ys e) k ∙ all-of p ys

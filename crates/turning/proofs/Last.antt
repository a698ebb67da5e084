-- The loop that keeps the last turn that rises, and a tuple in eight places. Assumes nothing.
use mathlib.Core.Path.{◌≡◌, refl, sym, ◌∙◌, ap, fun_ext, subst}
use mathlib.Core.Bool.{Bool, true, false, cond}
use mathlib.Core.List.{List, [], ◌∷◌, map}
use Prim.Native.Nat.{ℕ, zero, suc, ◌+◌, ◌-◌, ◌*◌, ◌≤◌, ◌<◌}
use native.Mathlib.Nat.{mul-le-mul_left, mul-suc}
use native.Mathlib.Omega.{arith}
use lib.ListN.{length, get_or, take, drop, length-map, length-take, get_or-eq_default}
use Rattle.base.specs.Lists.{all, keep, up_to, last_or}
use Rattle.base.proofs.Loop.{rest, rest-start, rest-next, rest_end}
use Rattle.templates.specs.Tables.{at}
use Rattle.templates.specs.between.Eight.{eight}
use Rattle.templates.specs.between.Flat.{table_row, table_rows}
use Rattle.least.specs.Least.{first_is_less, rises_at}
use Rattle.turning.specs.Form.{least_by}

-- ---- the last of f 0, f 1, .. at which the test passes

module _ {A : Type 0} (q : A → Bool) (f : ℕ → A) (n : ℕ) where
  -- b is the last so far
  pub record LastUp (d : A) (i : ℕ) (b : A) : Type 0 where
    pub low : i ≤ n
    pub same : last_or d (keep q (map f (up_to n))) ≡ last_or b (keep q (map f (rest i n)))

last_cons : {A : Type 0} (q : A → Bool) (b x : A) (xs : List A) → last_or b (keep q (x ∷ xs)) ≡ last_or (cond (q x) x b) (keep q xs)
unfolding keep
last_cons q b x xs = go (q x)
  where
    go : (t : Bool) → last_or b (cond t (x ∷ keep q xs) (keep q xs)) ≡ last_or (cond t x b) (keep q xs)
    go true = refl
    go false = refl

module _ {A : Type 0} {q : A → Bool} {f : ℕ → A} {n : ℕ} where
  pub last-start : (d : A) → LastUp q f n d 0 d
  last-start d = record { low = omega arith; same = ap (λ l. last_or d (keep q (map f l))) (sym (rest-start n)) }

  pub last-next : {d : A} {i : ℕ} {b : A} → LastUp q f n d i b → i < n → LastUp q f n d (i + 1) (cond (q (f i)) (f i) b)
  last-next {d} {i} {b} a h = record {
    low = omega arith;
    same = a.same ∙ ap (λ l. last_or b (keep q (map f l))) (rest-next i n h) ∙ last_cons q b (f i) (map f (rest (i + 1) n));
  }

  -- where x is the next, and y the last with it
  pub last_took : {d : A} {i : ℕ} {b x y : A} → LastUp q f n d i b → i < n → x ≡ f i → y ≡ cond (q x) x b → LastUp q f n d (i + 1) y
  last_took {d} {i} {b} {x} {y} a h e g = subst (λ z. LastUp q f n d (i + 1) z) (sym (g ∙ ap (λ z. cond (q z) z b) e)) (last-next a h)

  pub last_done : {d : A} {i : ℕ} {b : A} → LastUp q f n d i b → n ≤ i → b ≡ last_or d (keep q (map f (up_to n)))
  unfolding keep
  last_done {d} {i} {b} a h = sym (a.same ∙ ap (λ l. last_or b (keep q (map f l))) (rest_end i n h))

-- row i of n ends within the table
pub row_ends : (k : ℕ) {n l i : ℕ} → k * n ≤ l → i < n → k * i + k ≤ l
row_ends k {n} {l} {i} h j =
    omega (arith, mul-le-mul_left {m = suc i} {n = n} k (omega arith), mul-suc k i)

-- `&turns[k * i..k * i + k]`
pub row-part : (k i : ℕ) (turns : List ℕ) → take (k * i + k - k * i) (drop (k * i) turns) ≡ table_row k turns i
row-part k i turns = let e : k * i + k - k * i ≡ k = omega arith in ap (λ j. take j (drop (k * i) turns)) e

-- ---- eight places

pub eight-at : (xs : List ℕ) → length xs ≤ 8 → (j : ℕ) → get_or (eight xs) j 0 ≡ get_or xs j 0
eight-at xs h zero = refl
eight-at xs h (suc zero) = refl
eight-at xs h (suc (suc zero)) = refl
eight-at xs h (suc (suc (suc zero))) = refl
eight-at xs h (suc (suc (suc (suc zero)))) = refl
eight-at xs h (suc (suc (suc (suc (suc zero))))) = refl
eight-at xs h (suc (suc (suc (suc (suc (suc zero)))))) = refl
eight-at xs h (suc (suc (suc (suc (suc (suc (suc zero))))))) = refl
eight-at xs h (suc (suc (suc (suc (suc (suc (suc (suc j)))))))) =
    sym (get_or-eq_default xs 0 {n = suc (suc (suc (suc (suc (suc (suc (suc j)))))))} (omega arith))

eight-rises : (ps : List (List ℕ)) (xs : List ℕ) → length xs ≤ 8 → rises_at ps (eight xs) ≡ rises_at ps xs
unfolding rises_at
eight-rises ps xs h = ap (λ f. all (λ p. first_is_less (map f p)) ps) (fun_ext (eight-at xs h))

map-map : {A B C : Type 0} (g : B → C) (f : A → B) (xs : List A) → map g (map f xs) ≡ map (λ x. g (f x)) xs
map-map g f [] = refl
map-map g f (x ∷ xs) = ap (λ l. g (f x) ∷ l) (map-map g f xs)

-- the last of tuples in eight places is the last of the tuples, in eight places
module _ (ps : List (List ℕ)) (g : ℕ → List ℕ) (h : (i : ℕ) → length (g i) ≤ 8) where
  last-eight : (d : List ℕ) (is : List ℕ) → last_or (eight d) (keep (rises_at ps) (map (λ i. eight (g i)) is)) ≡ eight (last_or d (keep (rises_at ps) (map g is)))
  unfolding keep
  last-eight d [] = refl
  last-eight d (i ∷ is) =
      last_cons (rises_at ps) (eight d) (eight (g i)) (map (λ i. eight (g i)) is)
      ∙ ap (λ b. last_or b (keep (rises_at ps) (map (λ i. eight (g i)) is))) (ap (λ t. cond t (eight (g i)) (eight d)) (eight-rises ps (g i) (h i)) ∙ go (rises_at ps (g i)))
      ∙ last-eight (cond (rises_at ps (g i)) (g i) d) is
      ∙ ap eight (sym (last_cons (rises_at ps) d (g i) (map g is)))
    where
      go : (t : Bool) → cond t (eight (g i)) (eight d) ≡ eight (cond t (g i) d)
      go true = refl
      go false = refl

pub least-eight : (c : List ℕ) (k n : ℕ) (turns : List ℕ) (ps : List (List ℕ)) → k ≤ 8 → last_or (eight []) (keep (rises_at ps) (map (λ i. eight (at c (table_row k turns i))) (up_to n))) ≡ eight (least_by (table_rows k n turns) ps c)
unfolding least_by
least-eight c k n turns ps h =
    last-eight ps (λ i. at c (table_row k turns i)) (λ i. omega (arith, length-map (table_row k turns i) (λ v. get_or c v 0), length-take k (drop (k * i) turns))) [] (up_to n)
    ∙ ap (λ l. eight (last_or [] (keep (rises_at ps) l))) (sym (map-map (at c) (table_row k turns) (up_to n)))

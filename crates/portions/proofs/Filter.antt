-- The calls of the search from a mark before all that passes give the filter of all tuples in order.
-- Assumes nothing.
use mathlib.Core.Path.{◌≡◌, refl, sym, ◌∙◌, subst}
use mathlib.Core.Bool.{Bool, true, false, cond, true≢false}
use mathlib.Core.Logic.{◌⊎◌, inl, inr}
use mathlib.Core.List.{List, [], ◌∷◌, ◌++◌, map}
use Prim.Native.Nat.{ℕ, zero, suc, ◌<◌, ◌+◌}
use native.Mathlib.Omega.{arith}
use native.Mathlib.Decide.{dec_lt}
use lib.ListN.{get_or}
use Rattle.base.specs.Lists.{keep}
use Rattle.portions.specs.between.Tuples.{Agree, Lt, stack, tuples}
use Rattle.portions.proofs.Search.{Laws}
use Rattle.portions.proofs.Calls.{Rising, All, Some, Same, Full, Listed, listed-full, full_unique}

-- each is before all that follow
abbrev Sorted : ℕ → List (List ℕ) → Type 0
Sorted k [] = Unit {0}
Sorted k (t ∷ ts) = All (Lt k t) ts × Sorted k ts

all_more : (P Q : List ℕ → Type 0) → ((t : List ℕ) → P t → Q t) → (ts : List (List ℕ)) → All P ts → All Q ts
all_more P Q f [] a = tt
all_more P Q f (t ∷ ts) a = (f t a.0, all_more P Q f ts a.1)

all_append : (P : List ℕ → Type 0) (xs ys : List (List ℕ)) → All P xs → All P ys → All P (xs ++ ys)
all_append P [] ys a b = b
all_append P (x ∷ xs) ys a b = (a.0, all_append P xs ys a.1 b)

all_map : (P : List ℕ → Type 0) (c : ℕ) (ts : List (List ℕ)) → All (λ (t : List ℕ). P (c ∷ t)) ts → All P (map (λ (t : List ℕ). c ∷ t) ts)
all_map P c [] a = tt
all_map P c (t ∷ ts) a = (a.0, all_map P c ts a.1)

all_any : (P : List ℕ → Type 0) → ((t : List ℕ) → P t) → (ts : List (List ℕ)) → All P ts
all_any P f [] = tt
all_any P f (t ∷ ts) = (f t, all_any P f ts)

some_left : (P : List ℕ → Type 0) (xs ys : List (List ℕ)) → Some P xs → Some P (xs ++ ys)
some_left P [] ys i = absurd i
some_left P (x ∷ xs) ys (inl a) = inl a
some_left P (x ∷ xs) ys (inr i) = inr (some_left P xs ys i)

some_right : (P : List ℕ → Type 0) (xs ys : List (List ℕ)) → Some P ys → Some P (xs ++ ys)
some_right P [] ys i = i
some_right P (x ∷ xs) ys i = inr (some_right P xs ys i)

some-map : (P : List ℕ → Type 0) (c : ℕ) (ts : List (List ℕ)) → Some (λ (t : List ℕ). P (c ∷ t)) ts → Some P (map (λ (t : List ℕ). c ∷ t) ts)
some-map P c [] i = i
some-map P c (t ∷ ts) (inl a) = inl a
some-map P c (t ∷ ts) (inr i) = inr (some-map P c ts i)

some_more : (P Q : List ℕ → Type 0) → ((t : List ℕ) → P t → Q t) → (ts : List (List ℕ)) → Some P ts → Some Q ts
some_more P Q f [] i = i
some_more P Q f (t ∷ ts) (inl a) = inl (f t a)
some_more P Q f (t ∷ ts) (inr i) = inr (some_more P Q f ts i)

sorted_append : (k : ℕ) (xs ys : List (List ℕ)) → Sorted k xs → Sorted k ys → All (λ (x : List ℕ). All (Lt k x) ys) xs → Sorted k (xs ++ ys)
sorted_append k [] ys a b h = b
sorted_append k (x ∷ xs) ys a b h = (all_append (Lt k x) xs ys a.0 h.0, sorted_append k xs ys a.1 b h.1)

-- ── a number in front
agree-cons : (k c : ℕ) (x y : List ℕ) → Agree k x y → Agree (suc k) (c ∷ x) (c ∷ y)
agree-cons k c x y a zero l = refl
agree-cons k c x y a (suc j) l = a j (omega arith)

lt_cons : (k c : ℕ) (x y : List ℕ) → Lt k x y → Lt (suc k) (c ∷ x) (c ∷ y)
lt_cons k c x y h = record { place = suc h.place; within = omega (arith, h.within); same = agree-cons h.place c x y h.same; less = h.less }

lt_head : (k : ℕ) (x : List ℕ) (c : ℕ) (y : List ℕ) → get_or x 0 0 < c → Lt (suc k) x (c ∷ y)
lt_head k x c y h = record { place = 0; within = omega arith; same = λ j l. absurd (let z : ⊥ = omega arith in z); less = h }

stack-below : (c : ℕ) (ts : List (List ℕ)) → All (λ (t : List ℕ). get_or t 0 0 < c) (stack c ts)
unfolding stack
stack-below zero ts = tt
stack-below (suc c) ts =
    all_append (λ (t : List ℕ). get_or t 0 0 < suc c) (stack c ts) (map (λ (t : List ℕ). c ∷ t) ts)
    (all_more (λ (t : List ℕ). get_or t 0 0 < c) (λ (t : List ℕ). get_or t 0 0 < suc c) (λ t h. omega arith) (stack c ts) (stack-below c ts))
    (all_map (λ (t : List ℕ). get_or t 0 0 < suc c) c ts (all_any (λ (t : List ℕ). c < suc c) (λ t. omega arith) ts))

map_sorted : (k c : ℕ) (ts : List (List ℕ)) → Sorted k ts → Sorted (suc k) (map (λ (t : List ℕ). c ∷ t) ts)
map_sorted k c [] s = tt
map_sorted k c (t ∷ ts) s = (all_map (Lt (suc k) (c ∷ t)) c ts (all_more (Lt k t) (λ (x : List ℕ). Lt (suc k) (c ∷ t) (c ∷ x)) (λ x h. lt_cons k c t x h) ts s.0), map_sorted k c ts s.1)

stack_sorted : (k c : ℕ) (ts : List (List ℕ)) → Sorted k ts → Sorted (suc k) (stack c ts)
unfolding stack
stack_sorted k zero ts s = tt
stack_sorted k (suc c) ts s =
    sorted_append (suc k) (stack c ts) (map (λ (t : List ℕ). c ∷ t) ts) (stack_sorted k c ts s) (map_sorted k c ts s)
    (all_more (λ (x : List ℕ). get_or x 0 0 < c) (λ (x : List ℕ). All (Lt (suc k) x) (map (λ (t : List ℕ). c ∷ t) ts))
    (λ x h. all_map (Lt (suc k) x) c ts (all_any (λ (t : List ℕ). Lt (suc k) x (c ∷ t)) (λ t. lt_head k x c t h) ts))
    (stack c ts) (stack-below c ts))

tuples_sorted : (n k : ℕ) → Sorted k (tuples n k)
unfolding tuples
tuples_sorted n zero = (tt, tt)
tuples_sorted n (suc k) = stack_sorted k n (tuples n k) (tuples_sorted n k)

-- ── every tuple is there
stack-has : (P : List ℕ → Type 0) (c v : ℕ) (ts : List (List ℕ)) → v < c → Some (λ (t : List ℕ). P (v ∷ t)) ts → Some P (stack c ts)
unfolding stack
stack-has P zero v ts l i = absurd (let z : ⊥ = omega arith in z)
stack-has P (suc c) v ts l i =
    elim (dec_lt v c) [
      | yes h ↦ some_left P (stack c ts) (map (λ (t : List ℕ). c ∷ t) ts) (stack-has P c v ts h i)
      | no h ↦ some_right P (stack c ts) (map (λ (t : List ℕ). c ∷ t) ts) (some-map P c ts (subst (λ (w : ℕ). Some (λ (t : List ℕ). P (w ∷ t)) ts) (let e : v ≡ c = omega arith in e) i))
    ]

tail : List ℕ → List ℕ
tail [] = []
tail (x ∷ xs) = xs

tail_at : (s : List ℕ) (j : ℕ) → get_or (tail s) j 0 ≡ get_or s (suc j) 0
unfolding tail
tail_at [] j = refl
tail_at (x ∷ xs) j = refl

tuples-has : (n k : ℕ) (s : List ℕ) → ((d : ℕ) → d < k → get_or s d 0 < n) → Some (λ (t : List ℕ). Agree k t s) (tuples n k)
unfolding tuples
tuples-has n zero s h = inl (λ j l. absurd (let z : ⊥ = omega arith in z))
tuples-has n (suc k) s h =
    stack-has (λ (t : List ℕ). Agree (suc k) t s) n (get_or s 0 0) (tuples n k) (h 0 (omega arith))
    (some_more (λ (t : List ℕ). Agree k t (tail s)) (λ (t : List ℕ). Agree (suc k) (get_or s 0 0 ∷ t) s)
    (λ t a. front t a)
    (tuples n k) (tuples-has n k (tail s) (λ d l. rw (tail_at s d) (h (suc d) (omega arith)))))
  where
    front : (t : List ℕ) → Agree k t (tail s) → Agree (suc k) (get_or s 0 0 ∷ t) s
    front t a zero l = refl
    front t a (suc j) l = a j (omega arith) ∙ tail_at s j

-- ── the filter
module _ (f : List ℕ → Bool) where
  one-all : (P : List ℕ → Type 0) (t : List ℕ) (ks : List (List ℕ)) (b : Bool) → P t → All P ks → All P (cond b (t ∷ ks) ks)
  one-all P t ks true p a = (p, a)
  one-all P t ks false p a = a

  keep_all : (P : List ℕ → Type 0) (ts : List (List ℕ)) → All P ts → All P (keep f ts)
  unfolding keep
  keep_all P [] a = tt
  keep_all P (t ∷ ts) a = one-all P t (keep f ts) (f t) a.0 (keep_all P ts a.1)

  one_sorted : (k : ℕ) (t : List ℕ) (ks : List (List ℕ)) (b : Bool) → All (Lt k t) ks → Sorted k ks → Sorted k (cond b (t ∷ ks) ks)
  one_sorted k t ks true a s = (a, s)
  one_sorted k t ks false a s = s

  keep_sorted : (k : ℕ) (ts : List (List ℕ)) → Sorted k ts → Sorted k (keep f ts)
  unfolding keep
  keep_sorted k [] s = tt
  keep_sorted k (t ∷ ts) s = one_sorted k t (keep f ts) (f t) (keep_all (Lt k t) ts s.0) (keep_sorted k ts s.1)

  one_pass : (t : List ℕ) (ks : List (List ℕ)) (b : Bool) → f t ≡ b → All (λ (r : List ℕ). f r ≡ true) ks → All (λ (r : List ℕ). f r ≡ true) (cond b (t ∷ ks) ks)
  one_pass t ks true e a = (e, a)
  one_pass t ks false e a = a

  keep_pass : (ts : List (List ℕ)) → All (λ (r : List ℕ). f r ≡ true) (keep f ts)
  unfolding keep
  keep_pass [] = tt
  keep_pass (t ∷ ts) = one_pass t (keep f ts) (f t) refl (keep_pass ts)

  one_has : (P : List ℕ → Type 0) (t : List ℕ) (ks : List (List ℕ)) (b : Bool) → (P t → b ≡ true) → P t ⊎ Some P ks → Some P (cond b (t ∷ ks) ks)
  one_has P t ks true h i = i
  one_has P t ks false h (inl p) = absurd (true≢false (sym (h p)))
  one_has P t ks false h (inr i) = i

  keep-has : (P : List ℕ → Type 0) → ((t : List ℕ) → P t → f t ≡ true) → (ts : List (List ℕ)) → Some P ts → Some P (keep f ts)
  unfolding keep
  keep-has P h [] i = i
  keep-has P h (t ∷ ts) (inl p) = one_has P t (keep f ts) (f t) (h t) (inl p)
  keep-has P h (t ∷ ts) (inr i) = one_has P t (keep f ts) (f t) (h t) (inr (keep-has P h ts i))

rising-of : (k : ℕ) (m : List ℕ) (ts : List (List ℕ)) → All (Lt k m) ts → Sorted k ts → Rising k m ts
rising-of k m [] a s = tt
rising-of k m (t ∷ ts) a s = (a.0, rising-of k t ts s.0 s.1)

module _ (k n : ℕ) (leaf : List ℕ → Bool) (law : Laws k n leaf) (m : List ℕ) (first : (s : List ℕ) → leaf s ≡ true → Lt k m s) where
  -- the filter of all tuples in order is the sorted list of all that pass
  pub filter-full : Full k leaf m (keep leaf (tuples n k))
  filter-full = record {
    sorted = rising-of k m (keep leaf (tuples n k))
        (all_more (λ (r : List ℕ). leaf r ≡ true) (Lt k m) first (keep leaf (tuples n k)) (keep_pass leaf (tuples n k)))
        (keep_sorted leaf k (tuples n k) (tuples_sorted n k));
    pass = keep_pass leaf (tuples n k);
    all = λ s p a. keep-has leaf (λ (t : List ℕ). Agree k t s) (λ t e. law.reads t s e ∙ p) (tuples n k) (tuples-has n k s (λ d l. law.small s d p l));
  }

  -- so that is what the calls give, from a mark before all that passes until one finds nothing
  pub calls-filter : (ts : List (List ℕ)) → Listed k leaf m ts → Same k ts (keep leaf (tuples n k))
  calls-filter ts l = full_unique k leaf ts (keep leaf (tuples n k)) m m (λ j h. refl) (listed-full k leaf l) filter-full

-- Each tetrahedron gives at most 12 neighbours: the offsets fit. Assumes nothing.
use mathlib.Core.Path.{◌≡◌, refl, ap}
use mathlib.Core.Bool.{Bool, true, false, cond, not, ◌&&◌, ◌||◌, false≢true, and-false, or-false}
use mathlib.Core.List.{List, [], ◌∷◌, ◌++◌}
use Prim.Native.Nat.{ℕ, zero, suc, ◌+◌, ◌*◌, ◌/◌, ◌<◌, ◌≤◌}
use native.Mathlib.Omega.{arith}
use borrow.Author.Tests.{eqb-true, eqb-false, ne_eqb}
use lib.Dec.{eqb}
use lib.ListN.{length, get_or, length-append}
use Rattle.base.specs.Lists.{keep, spread, from, up_to}
use Rattle.base.proofs.Lists.{both_left, both_right}
use Rattle.neighbours.specs.Table.{neighbour_row, first_rows}
use Rattle.matrix.specs.between.Matrix.{is_one, is_vertex_of, joined_by, next_to}
use Rattle.neighbours.specs.between.Grown.{Few}

-- ---- counting
module _ {A B : Type 0} where
  sum-le : (f g h : A → List B) (xs : List A) → ((x : A) → length (f x) ≤ length (g x) + length (h x)) → length (spread f xs) ≤ length (spread g xs) + length (spread h xs)
  unfolding spread
  sum-le f g h [] e = omega arith
  sum-le f g h (x ∷ xs) e =
      omega (arith, e x, sum-le f g h xs e, length-append (f x) (spread f xs), length-append (g x) (spread g xs), length-append (h x) (spread h xs))

keep-le : (p q r : ℕ → Bool) (xs : List ℕ) → ((x : ℕ) → p x ≡ true → (q x || r x) ≡ true) → length (keep p xs) ≤ length (keep q xs) + length (keep r xs)
unfolding keep
keep-le p q r [] e = omega arith
keep-le p q r (x ∷ xs) e = go (p x) (q x) (r x) (e x) (keep-le p q r xs e)
  where
    go : (a b c : Bool) → (a ≡ true → (b || c) ≡ true) → length (keep p xs) ≤ length (keep q xs) + length (keep r xs)
        → length (cond a (x ∷ keep p xs) (keep p xs)) ≤ length (cond b (x ∷ keep q xs) (keep q xs)) + length (cond c (x ∷ keep r xs) (keep r xs))
    go false true true f h = omega arith
    go false true false f h = omega arith
    go false false true f h = omega arith
    go false false false f h = h
    go true true true f h = omega arith
    go true true false f h = omega arith
    go true false true f h = omega arith
    go true false false f h = absurd (false≢true (f refl))

-- at most one number is b
keep-past : (b i k : ℕ) → b < i → length (keep (λ v. eqb v b) (from i k)) ≤ 0
unfolding keep
keep-past b i zero h = omega arith
keep-past b i (suc k) h = rw (ne_eqb i b (omega arith)) (keep-past b (suc i) k (omega arith))

keep_one : (b i k : ℕ) → length (keep (λ v. eqb v b) (from i k)) ≤ 1
unfolding keep
keep_one b i zero = omega arith
keep_one b i (suc k) = go (eqb i b) refl (keep_one b (suc i) k)
  where
    go : (t : Bool) → eqb i b ≡ t → length (keep (λ v. eqb v b) (from (suc i) k)) ≤ 1
        → length (cond t (i ∷ keep (λ v. eqb v b) (from (suc i) k)) (keep (λ v. eqb v b) (from (suc i) k))) ≤ 1
    go true e h = omega (arith, keep-past b (suc i) k (omega (arith, eqb-true i b e)))
    go false e h = h

-- rows that are empty but for one
spread-past : (f : ℕ → List ℕ) (a i k : ℕ) → ((u : ℕ) → (u ≡ a → ⊥) → length (f u) ≤ 0) → a < i → length (spread f (from i k)) ≤ 0
unfolding spread
spread-past f a i zero n h = omega arith
spread-past f a i (suc k) n h =
    omega (arith, length-append (f i) (spread f (from (suc i) k)), n i (λ e. omega arith), spread-past f a (suc i) k n (omega arith))

spread-one : (f : ℕ → List ℕ) (a b i k : ℕ) → ((u : ℕ) → (u ≡ a → ⊥) → length (f u) ≤ 0) → ((u : ℕ) → length (f u) ≤ b) → length (spread f (from i k)) ≤ b
unfolding spread
spread-one f a b i zero n l = omega arith
spread-one f a b i (suc k) n l = go (eqb i a) refl (spread-one f a b (suc i) k n l)
  where
    split : length (f i ++ spread f (from (suc i) k)) ≡ length (f i) + length (spread f (from (suc i) k))
    split = length-append (f i) (spread f (from (suc i) k))

    go : (t : Bool) → eqb i a ≡ t → length (spread f (from (suc i) k)) ≤ b → length (f i ++ spread f (from (suc i) k)) ≤ b
    go true e h = omega (arith, split, l i, spread-past f a (suc i) k n (omega (arith, eqb-true i a e)))
    go false e h = omega (arith, split, n i (eqb-false i a e))

-- ---- three neighbours of one vertex
abbrev three : ℕ → ℕ → ℕ → ℕ → ℕ → ℕ → Bool
three x p q r u v = eqb u x && ((eqb v p || eqb v q) || eqb v r)

-- one vertex' three neighbours, of each of four
abbrev twelve : ℕ → ℕ → ℕ → ℕ → ℕ → ℕ → Bool
twelve a b c d u v = ((three a b c d u v || three b a c d u v) || three c a b d u v) || three d a b c u v

abbrev size : (ℕ → ℕ → Bool) → ℕ → ℕ → ℕ
size g n k = length (spread (λ u. keep (g u) (up_to n)) (up_to k))

keep-none : (p : ℕ → Bool) (xs : List ℕ) → ((x : ℕ) → p x ≡ false) → length (keep p xs) ≤ 0
unfolding keep
keep-none p [] e = omega arith
keep-none p (x ∷ xs) e = rw (e x) (keep-none p xs e)

size_three : (x p q r n k : ℕ) → size (three x p q r) n k ≤ 3
size_three x p q r n k = spread-one (λ u. keep (three x p q r u) (up_to n)) x 3 0 k none all
  where
    none : (u : ℕ) → (u ≡ x → ⊥) → length (keep (three x p q r u) (up_to n)) ≤ 0
    none u h = keep-none (three x p q r u) (up_to n) (λ v. ap (λ t. t && ((eqb v p || eqb v q) || eqb v r)) (ne_eqb u x h))

    all : (u : ℕ) → length (keep (three x p q r u) (up_to n)) ≤ 3
    all u = omega (
      arith,
      keep-le (three x p q r u) (λ v. eqb v p || eqb v q) (λ v. eqb v r) (up_to n) (λ v e. both_right (eqb u x) ((eqb v p || eqb v q) || eqb v r) e),
      keep-le (λ v. eqb v p || eqb v q) (λ v. eqb v p) (λ v. eqb v q) (up_to n) (λ v e. e),
      keep_one p 0 n,
      keep_one q 0 n,
      keep_one r 0 n,
    )

size-le : (f g h : ℕ → ℕ → Bool) (n k : ℕ) → ((u v : ℕ) → f u v ≡ true → (g u v || h u v) ≡ true) → size f n k ≤ size g n k + size h n k
size-le f g h n k e = sum-le (λ u. keep (f u) (up_to n)) (λ u. keep (g u) (up_to n)) (λ u. keep (h u) (up_to n)) (up_to k) (λ u. keep-le (f u) (g u) (h u) (up_to n) (e u))

size_twelve : (a b c d n k : ℕ) → size (twelve a b c d) n k ≤ 12
size_twelve a b c d n k =
    let f₁ = three a b c d in
    let f₂ = three b a c d in
    let f₃ = three c a b d in
    let f₄ = three d a b c in
    omega (
      arith,
      size-le (twelve a b c d) (λ u v. (f₁ u v || f₂ u v) || f₃ u v) f₄ n k (λ u v e. e),
      size-le (λ u v. (f₁ u v || f₂ u v) || f₃ u v) (λ u v. f₁ u v || f₂ u v) f₃ n k (λ u v e. e),
      size-le (λ u v. f₁ u v || f₂ u v) f₁ f₂ n k (λ u v e. e),
      size_three a b c d n k,
      size_three b a c d n k,
      size_three c a b d n k,
      size_three d a b c n k,
    )

-- two vertices of a tetrahedron that differ are among its twelve pairs
pick : (ua ub uc ud va vb vc vd : Bool) → (ua ≡ true → va ≡ false) → (ub ≡ true → vb ≡ false) → (uc ≡ true → vc ≡ false) → (ud ≡ true → vd ≡ false)
    → (((va || vb) || vc) || vd) ≡ true → (((ua || ub) || uc) || ud) ≡ true
    → ((((ua && ((vb || vc) || vd)) || (ub && ((va || vc) || vd))) || (uc && ((va || vb) || vd))) || (ud && ((va || vb) || vc))) ≡ true
pick true ub uc ud va vb vc vd a b c d v u =
    let e : ((vb || vc) || vd) ≡ true = rw (a refl) at v in
    rw e
pick false true uc ud va vb vc vd a b c d v u =
    let e : ((va || vc) || vd) ≡ true = rw (b refl, or-false) at v in
    rw e
pick false false true ud va vb vc vd a b c d v u =
    let e : ((va || vb) || vd) ≡ true = rw (c refl, or-false) at v in
    rw e
pick false false false true va vb vc vd a b c d v u =
    let e : ((va || vb) || vc) ≡ true = rw (d refl, or-false) at v in
    e
pick false false false false va vb vc vd a b c d v u = absurd (false≢true u)

unlike : (x u v : ℕ) → eqb u v ≡ false → eqb u x ≡ true → eqb v x ≡ false
unlike x u v n e = ne_eqb v x (λ f. eqb-false u v n (omega (arith, eqb-true u x e)))

among : (a b c d u v : ℕ) → eqb u v ≡ false → is_one a b c d v ≡ true → is_one a b c d u ≡ true → twelve a b c d u v ≡ true
among a b c d u v n hv hu =
    pick (eqb u a) (eqb u b) (eqb u c) (eqb u d) (eqb v a) (eqb v b) (eqb v c) (eqb v d)
    (unlike a u v n) (unlike b u v n) (unlike c u v n) (unlike d u v n) hv hu

abbrev twelve_of : List ℕ → ℕ → ℕ → ℕ → Bool
twelve_of l t = twelve (get_or l (4 * t) 0) (get_or l (4 * t + 1) 0) (get_or l (4 * t + 2) 0) (get_or l (4 * t + 3) 0)

-- one tetrahedron more
one_more : (l : List ℕ) (t u v : ℕ) → next_to (joined_by l (suc t)) u v ≡ true → (next_to (joined_by l t) u v || twelve_of l t u v) ≡ true
unfolding joined_by
one_more l t u v h = go (eqb u v) (joined_by l t u v) refl h
  where
    go : (e f : Bool) → eqb u v ≡ e → (not e && (f || (is_vertex_of l t v && is_vertex_of l t u))) ≡ true → ((not e && f) || twelve_of l t u v) ≡ true
    go true f p h = absurd (false≢true h)
    go false true p h = refl
    go false false p h =
        among (get_or l (4 * t) 0) (get_or l (4 * t + 1) 0) (get_or l (4 * t + 2) 0) (get_or l (4 * t + 3) 0) u v p
        (both_left (is_vertex_of l t v) (is_vertex_of l t u) h) (both_right (is_vertex_of l t v) (is_vertex_of l t u) h)

size-near : (l : List ℕ) (n k t : ℕ) → size (next_to (joined_by l t)) n k ≤ 12 * t
unfolding joined_by
size-near l n k zero =
    spread-one (λ u. keep (next_to (joined_by l zero) u) (up_to n)) 0 0 0 k (λ u h. none u) none
  where
    none : (u : ℕ) → length (keep (next_to (joined_by l zero) u) (up_to n)) ≤ 0
    none u = keep-none (next_to (joined_by l zero) u) (up_to n) (λ v. and-false (not (eqb u v)))
size-near l n k (suc t) =
    omega (
      arith,
      size-le (next_to (joined_by l (suc t))) (next_to (joined_by l t)) (twelve_of l t) n k (one_more l t),
      size-near l n k t,
      size_twelve (get_or l (4 * t) 0) (get_or l (4 * t + 1) 0) (get_or l (4 * t + 2) 0) (get_or l (4 * t + 3) 0) n k,
    )

-- at most 12 neighbours for each tetrahedron
pub rows_few : (l : List ℕ) (n k t : ℕ) → length (first_rows (neighbour_row (joined_by l t) n) k) ≤ 12 * t
unfolding first_rows neighbour_row
rows_few l n k t = size-near l n k t

pub few : (l : List ℕ) (n : ℕ) → length l ≤ 8192 → Few (neighbour_row (joined_by l (length l / 4)) n)
few l n h k = omega (arith, rows_few l n k (length l / 4))

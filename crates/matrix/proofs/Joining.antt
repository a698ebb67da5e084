-- What the matrix says after stores. Assumes nothing.
use mathlib.Core.Path.{◌≡◌, refl, sym, ◌∙◌, ap}
use mathlib.Core.Bool.{Bool, true, false, not, ◌&&◌, ◌||◌, or_assoc, or-true, or-false, and_comm}
use mathlib.Core.List.{List}
use Prim.Native.Nat.{ℕ, ◌+◌, ◌*◌, ◌<◌}
use native.Mathlib.Omega.{arith}
use native.Mathlib.Decide.{dec_lt}
use borrow.Author.Tests.{eqb-true, eqb-false}
use lib.Dec.{eqb}
use lib.Bits.{bit_or, or_add_and, and_le_l, and_le_r}
use lib.ListN.{length, get_or, set, length-set, replicate, get_or-replicate, length-replicate, get_or-eq_default}
use lib.Seq.{get_or-set_same, get_or-set_other}
use native.Mathlib.Numerals.{add-one}
use Rattle.matrix.specs.between.Matrix.{is_one, joined_by, is_joined, Empty, AddsJoins, Blank, one_pair, row_pairs, tet_pairs}

pub adds_then : {m m' m'' : List ℕ} {f g : ℕ → ℕ → Bool} → AddsJoins m m' f → AddsJoins m' m'' g → AddsJoins m m'' (λ x y. f x y || g x y)
adds_then {m} {m'} {m''} {f} {g} a b = record { same = b.same ∙ a.same; at = λ x y h. b.at x y h ∙ ap (λ t. t || g x y) (a.at x y h) ∙ or_assoc (is_joined m x y) (f x y) (g x y) }

pub adds_as : {m m' : List ℕ} {f g : ℕ → ℕ → Bool} → AddsJoins m m' f → ((x y : ℕ) → f x y ≡ g x y) → AddsJoins m m' g
adds_as {m} a e = record { same = a.same; at = λ x y h. a.at x y h ∙ ap (λ t. is_joined m x y || t) (e x y) }

pub adds_none : (m : List ℕ) → AddsJoins m m (λ x y. false)
adds_none m = record { same = refl; at = λ x y h. sym (or-false (is_joined m x y)) }

-- a store joins two vertices
stores : (m : List ℕ) (u v : ℕ) → v < 512 → u * 512 + v < length m → (x y : ℕ) → y < 512 → is_joined (set m (u * 512 + v) 1) x y ≡ (is_joined m x y || one_pair u v x y)
unfolding is_joined
stores m u v hv hm x y hy = go (eqb x u) (eqb y v) refl refl
  where
    other : (x * 512 + y ≡ u * 512 + v → ⊥) → is_joined (set m (u * 512 + v) 1) x y ≡ (is_joined m x y || false)
    other n = ap (λ k. not (eqb k 0)) (get_or-set_other m (u * 512 + v) (x * 512 + y) 1 0 n) ∙ sym (or-false (is_joined m x y))

    go : (p q : Bool) → eqb x u ≡ p → eqb y v ≡ q → is_joined (set m (u * 512 + v) 1) x y ≡ (is_joined m x y || (p && q))
    go true true e f =
        let i : x * 512 + y ≡ u * 512 + v = omega (arith, eqb-true x u e, eqb-true y v f) in
        ap (λ k. not (eqb (get_or (set m (u * 512 + v) 1) k 0) 0)) i
        ∙ ap (λ k. not (eqb k 0)) (get_or-set_same m (u * 512 + v) 1 0 hm) ∙ sym (or-true (is_joined m x y))
    go true false e f = other (λ i. eqb-false y v f (omega (arith, eqb-true x u e)))
    go false q e f = other (λ i. eqb-false x u e (omega arith))

pub join_adds : (m : List ℕ) (u v : ℕ) → v < 512 → u * 512 + v < length m → AddsJoins m (set m (u * 512 + v) 1) (one_pair u v)
join_adds m u v hv hm = record { same = length-set m (u * 512 + v) 1; at = stores m u v hv hm }

four : (p a b c d : Bool) → ((((p && a) || (p && b)) || (p && c)) || (p && d)) ≡ (p && (((a || b) || c) || d))
four true a b c d = refl
four false a b c d = refl

pub row_of_joins : (u a b c d x y : ℕ) → (((one_pair u a x y || one_pair u b x y) || one_pair u c x y) || one_pair u d x y) ≡ row_pairs u a b c d x y
row_of_joins u a b c d x y = four (eqb x u) (eqb y a) (eqb y b) (eqb y c) (eqb y d) ∙ and_comm (eqb x u) (is_one a b c d y)

pub tet_of_rows : (a b c d x y : ℕ) → (((row_pairs a a b c d x y || row_pairs b a b c d x y) || row_pairs c a b c d x y) || row_pairs d a b c d x y) ≡ tet_pairs a b c d x y
tet_of_rows a b c d x y = four (is_one a b c d y) (eqb x a) (eqb x b) (eqb x c) (eqb x d)

-- one tetrahedron more
near-more : (l : List ℕ) (i x y : ℕ) → (joined_by l i x y || tet_pairs (get_or l (4 * i) 0) (get_or l (4 * i + 1) 0) (get_or l (4 * i + 2) 0) (get_or l (4 * i + 3) 0) x y) ≡ joined_by l (i + 1) x y
unfolding joined_by
near-more l i x y = sym (ap (λ k. joined_by l k x y) (add-one i))

pub adds_tet : {m m' m'' : List ℕ} (l : List ℕ) (i : ℕ) {a b c d : ℕ} → a ≡ get_or l (4 * i) 0 → b ≡ get_or l (4 * i + 1) 0 → c ≡ get_or l (4 * i + 2) 0 → d ≡ get_or l (4 * i + 3) 0
    → AddsJoins m m' (joined_by l i) → AddsJoins m' m'' (tet_pairs a b c d) → AddsJoins m m'' (joined_by l (i + 1))
adds_tet l i ea eb ec ed f g = adds_as (adds_then f (rw (ea, eb, ec, ed) at g)) (near-more l i)

pub near_none : (l : List ℕ) (x y : ℕ) → false ≡ joined_by l 0 x y
unfolding joined_by
near_none l x y = refl

-- a matrix of zeros says nothing
zeros-at : (k i : ℕ) → ◌≡◌ {A = ℕ} (get_or (replicate k 0) i 0) 0
zeros-at k i = elim (dec_lt i k) [
  | yes h ↦ get_or-replicate k i 0 0 h
  | no h ↦ get_or-eq_default (replicate k 0) 0 (omega (arith, length-replicate {A = ℕ} k 0))
]

pub zeros-empty : Empty (replicate 262144 0)
unfolding is_joined
zeros-empty = record { size = length-replicate {A = ℕ} 262144 0; none = λ x y. ap (λ j. not (eqb j 0)) (zeros-at 262144 (x * 512 + y)) }

-- ---- places that say nothing
pub blank_none : (m : List ℕ) (u v : ℕ) → Blank m u v 0
blank_none m u v i h = absurd (let o : ⊥ = omega arith in o)

or-none : (a b : ℕ) → bit_or a b ≡ 0 → (a ≡ 0) × (b ≡ 0)
or-none a b h = (omega (arith, or_add_and a b, and_le_r a b), omega (arith, or_add_and a b, and_le_l a b))

-- one place more
pub blank_more : (m : List ℕ) (u v k x : ℕ) → (x ≡ 0 → Blank m u v k) → bit_or x (get_or m (u * 512 + v + k) 0) ≡ 0 → Blank m u v (k + 1)
unfolding is_joined
blank_more m u v k x f h i l = elim (dec_lt i k) [
  | yes b ↦ f (or-none x (get_or m (u * 512 + v + k) 0) h).0 i b
  | no b ↦
      let e : u * 512 + (v + i) ≡ u * 512 + v + k = omega arith in
      ap (λ j. not (eqb (get_or m j 0) 0)) e ∙ ap (λ j. not (eqb j 0)) (or-none x (get_or m (u * 512 + v + k) 0) h).1
]

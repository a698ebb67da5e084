-- How many of the triples of k corners pass a test at all three: as many as n things have triples, where the test passes at n corners.
-- Assumes nothing.
use Prim.Native.Nat.{ℕ, zero, suc, ◌+◌, ◌-◌, ◌≤◌}
use mathlib.Core.Path.{◌≡◌, refl, sym, ◌∙◌, ap, fun_ext}
use mathlib.Core.Bool.{Bool, true, false, cond, ◌&&◌}
use mathlib.Core.List.{List, [], ◌∷◌, map}
use lib.Dec.{ltb}
use lib.ListN.{get_or}
use native.Mathlib.Decide.{dec_lt}
use native.Mathlib.Omega.{arith}
use borrow.Author.Tests.{lt-ltb, le-ltb}
use Rattle.base.specs.Lists.{all, keep, count, spread, from, up_to}
use Rattle.base.proofs.Bools.{and-true}
use Rattle.base.proofs.Lists.{all_from, keep-map, keep-spread, spread-keep, spread_ext}
use Rattle.base.proofs.Members.{keep_all, keep-none, from_at}
use Rattle.tets_around.proofs.Around.{count_map}
use Rattle.cells.specs.Cells.{corner3}
use Rattle.few.specs.Few.{sum}
use Rattle.few.proofs.Sums.{sum-none, count_none, count-spread}

-- the numbers below k that are above i
unfoldable pub above : ℕ → ℕ → List ℕ
above k i = from (suc i) (k - suc i)

-- ---- the triples as lists

keep-from : (i a n : ℕ) → a ≤ suc i → keep (ltb i) (from a n) ≡ from (suc i) (a + n - suc i)
unfolding keep
keep-from i a zero h = let e : a + zero - suc i ≡ 0 = omega arith in sym (ap (from (suc i)) e)
keep-from i a (suc n) h = elim (dec_lt i a) [
  | yes l ↦
      let s : a ≡ suc i = omega arith in
      let e : a + suc n - suc i ≡ suc n = omega arith in
      keep_all (ltb i) (from a (suc n)) (all_from (ltb i) (from a (suc n)) (λ v g. lt-ltb i v (omega (arith, from_at a (suc n) g))))
      ∙ ap (λ b. from b (suc n)) s
      ∙ sym (ap (from (suc i)) e)
  | no l ↦
      let e : suc a + n - suc i ≡ a + suc n - suc i = omega arith in
      rw (le-ltb i a (omega arith)) (keep-from i (suc a) n (omega arith) ∙ ap (from (suc i)) e)
]

keep_above : (k i : ℕ) → keep (ltb i) (up_to k) ≡ above k i
unfolding above
keep_above k i = let e : 0 + k - suc i ≡ k - suc i = omega arith in keep-from i 0 k (omega arith) ∙ ap (from (suc i)) e

abbrev pub triple : ℕ → ℕ → ℕ → List ℕ
triple i j l = i ∷ j ∷ l ∷ []

pub corner3-is : (k : ℕ) → corner3 k ≡ spread (λ i. spread (λ j. map (triple i j) (above k j)) (above k i)) (up_to k)
unfolding corner3
corner3-is k =
    keep-spread rises (λ i. spread (λ j. map (triple i j) (up_to k)) (up_to k)) (up_to k)
    ∙ spread_ext (up_to k) (λ i.
    keep-spread rises (λ j. map (triple i j) (up_to k)) (up_to k)
    ∙ spread_ext (up_to k) (λ j. keep-map rises (triple i j) (up_to k) ∙ go (ltb i j) i j)
    ∙ sym (spread-keep (λ j. map (triple i j) (above k j)) (ltb i) (up_to k))
    ∙ ap (spread (λ j. map (triple i j) (above k j))) (keep_above k i))
  where
    rises : List ℕ → Bool
    rises ks = ltb (get_or ks 0 0) (get_or ks 1 0) && ltb (get_or ks 1 0) (get_or ks 2 0)

    go : (b : Bool) (i j : ℕ) → map (triple i j) (keep (λ l. b && ltb j l) (up_to k)) ≡ cond b (map (triple i j) (above k j)) []
    go true i j = ap (map (triple i j)) (keep_above k j)
    go false i j = ap (map (triple i j)) (keep-none (λ l. false) (up_to k) (λ l h. refl))

-- ---- how many pass

-- the pairs of n things, and the triples
abbrev pub twos : ℕ → ℕ
twos zero = 0
twos (suc n) = n + twos n

abbrev pub threes : ℕ → ℕ
threes zero = 0
threes (suc n) = twos n + threes n

module _ (q : ℕ → Bool) (k : ℕ) where
  -- for each number that passes, g of how many above it pass
  over : (ℕ → ℕ) → ℕ → ℕ
  over g i = cond (q i) (g (count q (above k i))) 0

  picked : (g h : ℕ → ℕ) → h 0 ≡ 0 → ((n : ℕ) → h (suc n) ≡ g n + h n) → (a n : ℕ) → n ≡ k - a → sum (over g) (from a n) ≡ h (count q (from a n))
  unfolding over above
  picked g h z s a zero e = sym z
  picked g h z s a (suc n) e = let d : k - suc a ≡ n = omega arith in rw d (go (q a) (picked g h z s (suc a) n (sym d)))
    where
      go : (b : Bool) → sum (over g) (from (suc a) n) ≡ h (count q (from (suc a) n)) → cond b (g (count q (from (suc a) n))) 0 + sum (over g) (from (suc a) n) ≡ h (cond b (suc (count q (from (suc a) n))) (count q (from (suc a) n)))
      go true r = omega (arith, s (count q (from (suc a) n)))
      go false r = omega arith

  passing : (xs : List ℕ) (i j : ℕ) → count (all q) (map (triple i j) xs) ≡ cond (q i) (cond (q j) (count q xs) 0) 0
  passing xs i j = count_map (triple i j) (all q) xs ∙ go (q i) (q j)
    where
      go : (a b : Bool) → count (λ l. a && (b && (q l && true))) xs ≡ cond a (cond b (count q xs) 0) 0
      go true true = ap (λ f. count f xs) (fun_ext (λ l. and-true (q l)))
      go true false = count_none xs
      go false b = count_none xs

  pairs_above : (i : ℕ) → sum (λ j. cond (q i) (cond (q j) (count q (above k j)) 0) 0) (above k i) ≡ over twos i
  unfolding over above
  pairs_above i = go (q i)
    where
      go : (b : Bool) → sum (λ j. cond b (cond (q j) (count q (above k j)) 0) 0) (above k i) ≡ cond b (twos (count q (above k i))) 0
      go true = picked (λ n. n) twos refl (λ n. refl) (suc i) (k - suc i) refl
      go false = sum-none (above k i)

  pub triples-count : count (all q) (corner3 k) ≡ threes (count q (up_to k))
  triples-count =
      ap (count (all q)) (corner3-is k)
      ∙ count-spread (all q) (λ i. spread (λ j. map (triple i j) (above k j)) (above k i)) (up_to k)
      ∙ ap (λ f. sum f (up_to k)) (fun_ext (λ i.
      count-spread (all q) (λ j. map (triple i j) (above k j)) (above k i)
      ∙ ap (λ f. sum f (above k i)) (fun_ext (λ j. passing (above k j) i j))
      ∙ pairs_above i))
      ∙ picked twos threes refl (λ n. refl) 0 k (omega arith)

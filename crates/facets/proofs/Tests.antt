-- The tests at the four facets of one tetrahedron, two signs, and a clash moved to the row of one vertex.
-- Assumes nothing.
use mathlib.Core.Path.{◌≡◌, refl, sym, ap}
use mathlib.Core.Bool.{Bool, true, false, not, ◌&&◌, ◌||◌, false≢true}
use mathlib.Core.List.{List, [], ◌∷◌}
use Prim.Native.Nat.{ℕ, zero, suc, ◌+◌, ◌*◌}
use native.Mathlib.Omega.{arith}
use lib.Dec.{eqb}
use lib.IntN.{ℤ, pos, negsuc}
use lib.ListN.{get_or}
use lib.Signed.{lt_z}
use borrow.Author.Tests.{le-ltb}
use Rattle.base.specs.Lists.{any}
use Rattle.base.proofs.Bools.{or-false, and_left, and_right}
use Rattle.space.specs.Box.{is_above0}
use Rattle.space.specs.Arrays.{row4}
use Rattle.space.specs.between.Working.{around}
use Rattle.tets_around.specs.between.Index.{fewest}
use Rattle.tets_around.specs.Sharing.{has_all}
use Rattle.tets_around.proofs.Around.{any-around, fewest-held}
use Rattle.space.specs.declared.Tet.{Tet}
use Rattle.facets.specs.Facets.{some_facet, is_below0, opposite, astray, clashes, clashing}
use Rattle.facets.specs.between.Tries.{facets_of, at_facet}

-- ---- the test passes at one of the four facets

pub any-facets : (q : ℕ → ℕ → ℕ → ℕ → ℕ → Bool) (ls : List ℕ) (e : Tet) → any (λ f. at_facet (q f.e.0) f) (facets_of ls e) ≡ some_facet (q e.0) ls e.0
any-facets q ls e =
    let a = get_or ls (4 * e.0) 0 in
    let b = get_or ls (4 * e.0 + 1) 0 in
    let c = get_or ls (4 * e.0 + 2) 0 in
    let d = get_or ls (4 * e.0 + 3) 0 in
    ap (λ r. q e.0 a b c d || (q e.0 b a c d || (q e.0 c a b d || r))) (or-false (q e.0 d a b c))

-- ---- signs

pub below-is : (z : ℤ) → lt_z z (pos 0) ≡ is_below0 z
below-is (pos k) = le-ltb k 0 (omega arith)
below-is (negsuc k) = refl

pub opposite_above : (x y : ℤ) → is_above0 x ≡ true → opposite x y ≡ is_below0 y
unfolding opposite
opposite_above (pos zero) y e = absurd (false≢true e)
opposite_above (pos (suc k)) y e = or-false (is_below0 y)
opposite_above (negsuc k) y e = absurd (false≢true e)

pub opposite-below : (x y : ℤ) → is_below0 x ≡ true → opposite x y ≡ is_above0 y
unfolding opposite
opposite-below (pos k) y e = absurd (false≢true e)
opposite-below (negsuc k) y e = refl

pub opposite-none : (x y : ℤ) → is_above0 x ≡ false → is_below0 x ≡ false → opposite x y ≡ false
unfolding opposite
opposite-none (pos zero) y e f = refl
opposite-none (pos (suc k)) y e f = absurd (false≢true (sym e))
opposite-none (negsuc k) y e f = absurd (false≢true (sym f))

-- ---- a clash is found around any vertex of the facet

module _ (zs : List ℤ) (ls : List ℕ) (e u a b c : ℕ) where
  pub clash_has : (m : ℕ) → clashes zs ls e u a b c m ≡ true → has_all ls (a ∷ b ∷ c ∷ []) m ≡ true
  unfolding clashes
  clash_has m t =
      let f = any (astray zs u a b c) (row4 ls m) in
      and_left _ f (and_right (not (eqb m e)) (has_all ls (a ∷ b ∷ c ∷ []) m && f) t)

  pub clash_around : any (clashes zs ls e u a b c) (around ls (fewest ls a b c)) ≡ clashing zs ls e u a b c
  unfolding clashing
  clash_around = any-around ls (fewest ls a b c) (clashes zs ls e u a b c) (λ m t. fewest-held ls a b c m (clash_has m t))

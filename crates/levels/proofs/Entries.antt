-- What the code asks of the constant tables, by computed tests.
-- Assumes nothing.
use Prim.Native.Nat.{ℕ, zero, suc, ◌+◌, ◌-◌, ◌*◌, ◌<◌}
use mathlib.Core.Path.{◌≡◌, refl}
use mathlib.Core.Bool.{Bool, true, ◌&&◌}
use mathlib.Core.List.{List, [], ◌∷◌}
use native.Mathlib.Omega.{arith}
use borrow.Author.Tests.{eqb-true, leb-true, ltb-true}
use lib.Dec.{eqb, leb, ltb}
use lib.ListN.{length, get_or, take, drop}
use Rattle.base.specs.Lists.{all, up_to}
use Rattle.base.proofs.Lists.{both_left, both_right, all-at}
use Rattle.base.proofs.Members.{from-has}
use Rattle.levels.specs.between.Levels.{triangles_at, quads_at, triples_at, lesser, joined, also, third, ahead, look, levels, Cut}

pub entry-below : (n : ℕ) (l : List ℕ) → 0 < n → all (λ y. ltb y n) l ≡ true → (i : ℕ) → get_or l i 0 < n
entry-below n [] z e i = z
entry-below n (y ∷ ys) z e zero = ltb-true y n (both_left (ltb y n) _ e)
entry-below n (y ∷ ys) z e (suc i) = entry-below n ys z (both_right (ltb y n) _ e) i

pub lesser-few : (x : ℕ) → get_or lesser x 0 < 3
lesser-few x = entry-below 3 lesser (omega arith) refl x

pub joined-few : (x : ℕ) → get_or joined x 0 < 8
joined-few x = entry-below 8 joined (omega arith) refl x

pub also-few : (x : ℕ) → get_or also x 0 < 8
also-few x = entry-below 8 also (omega arith) refl x

pub third-few : (x : ℕ) → get_or third x 0 < 8
third-few x = entry-below 8 third (omega arith) refl x

pub look-few : (x i : ℕ) → look x i < 8
look-few x i = entry-below 8 ahead (omega arith) refl (6 * x + i)

unfoldable is_cut : List ℕ → List ℕ → ℕ → Bool
is_cut rows starts x = leb (get_or starts x 0) (get_or starts (x + 1) 0) && leb (get_or starts (x + 1) 0) (length rows)

cut_at : (rows starts : List ℕ) → length starts ≡ 20 → all (is_cut rows starts) (up_to 19) ≡ true → (x : ℕ) → x < 19 → Cut rows starts x
unfolding is_cut
cut_at rows starts l e x h =
    let a = all-at (is_cut rows starts) (up_to 19) e (from-has 0 19 x (omega arith) (omega arith)) in
    record {
      there = omega (arith, l);
      rising = leb-true _ _ (both_left (leb (get_or starts x 0) (get_or starts (x + 1) 0)) _ a);
      within = leb-true _ _ (both_right (leb (get_or starts x 0) (get_or starts (x + 1) 0)) _ a);
    }

pub triangles-cut : (x : ℕ) → x < 19 → Cut levels triangles_at x
unfolding is_cut levels
triangles-cut x h = cut_at levels triangles_at refl refl x h

pub quads-cut : (x : ℕ) → x < 19 → Cut levels quads_at x
unfolding is_cut levels
quads-cut x h = cut_at levels quads_at refl refl x h

pub triples-cut : (x : ℕ) → x < 19 → Cut levels triples_at x
unfolding is_cut levels
triples-cut x h = cut_at levels triples_at refl refl x h

-- ── where the tables stand ──

pub levels-long : length levels ≡ 380
unfolding levels
levels-long = refl

-- a table stands in the table of all from o on
unfoldable pub stands : ℕ → List ℕ → Bool
stands o table = all (λ x. eqb (get_or levels (o + x) 0) (get_or table x 0)) (up_to (length table))

pub entry_at : (o : ℕ) (table : List ℕ) → stands o table ≡ true → (x : ℕ) → x < length table → get_or levels (o + x) 0 ≡ get_or table x 0
unfolding stands
entry_at o table e x h =
    eqb-true (get_or levels (o + x) 0) (get_or table x 0) (all-at (λ x. eqb (get_or levels (o + x) 0) (get_or table x 0)) (up_to (length table)) e (from-has 0 (length table) x (omega arith) (omega arith)))

pub lesser-stands : stands 190 lesser ≡ true
unfolding stands levels
lesser-stands = refl

pub joined-stands : stands 209 joined ≡ true
unfolding stands levels
joined-stands = refl

pub also-stands : stands 228 also ≡ true
unfolding stands levels
also-stands = refl

pub third-stands : stands 247 third ≡ true
unfolding stands levels
third-stands = refl

pub ahead-stands : stands 266 ahead ≡ true
unfolding stands levels
ahead-stands = refl

pub triangles-there : take (150 - 130) (drop 130 levels) ≡ triangles_at
unfolding levels
triangles-there = refl

pub quads-there : take (170 - 150) (drop 150 levels) ≡ quads_at
unfolding levels
quads-there = refl

pub triples-there : take (190 - 170) (drop 170 levels) ≡ triples_at
unfolding levels
triples-there = refl

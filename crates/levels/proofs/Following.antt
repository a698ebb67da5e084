-- The look-ahead's table is right: a computed test over the places of the three kinds, and what it says of one place.
-- Assumes nothing.
use Prim.Native.Nat.{ℕ, ◌+◌, ◌<◌}
use mathlib.Core.Path.{◌≡◌, refl}
use mathlib.Core.Bool.{Bool, true, false, not, cond, ◌&&◌, ◌||◌, true≢false}
use mathlib.Core.List.{List, [], ◌∷◌, ◌++◌, map}
use native.Mathlib.Omega.{arith}
use borrow.Author.Tests.{ne_eqb, ltb-true}
use lib.Dec.{eqb, ltb}
use lib.ListN.{length, get_or}
use Rattle.base.specs.Lists.{all, any, up_to, is_in}
use Rattle.base.proofs.Lists.{both_left, both_right, all-at}
use Rattle.base.proofs.Members.{from-has}
use Rattle.templates.specs.Tables.{Template, hexahedron, prism, pyramid, template_of, at}
use Rattle.cells.specs.Cells.{one_diagonal, other_diagonal}
use Rattle.levels.specs.between.Levels.{base, lesser, look}

-- sets of triangles one of which is facets: of each quadrilateral those of a diagonal,
-- and all of the triangles together
unfoldable pub ways : Template → List (List (List (List ℕ)))
ways t = map (λ q. one_diagonal q ∷ other_diagonal q ∷ []) t.quads ++ ((t.triangles ∷ []) ∷ [])

-- some triangle has all of ks, by places
unfoldable pub covered : Template → List ℕ → List (List ℕ) → Bool
covered t ks fs = any (λ f. all (λ k. ltb k (length t.places)) f && all (λ k. is_in k (at t.places f)) ks) fs

-- these triangles, where they are facets, let v follow u and w by the corner at one of the places ys,
-- which is none of the first place, u, w and q
unfoldable pub linked : Template → List ℕ → ℕ → ℕ → ℕ → ℕ → List (List ℕ) → Bool
linked t ys u w q v fs =
    any (λ y. ((ltb y t.corners && ltb 0 y) && (not (eqb y u) && (not (eqb y w) && not (eqb y q)))) && (covered t (u ∷ w ∷ y ∷ []) fs && covered t (u ∷ y ∷ v ∷ []) fs)) ys

unfoldable pub follows : Template → List ℕ → ℕ → ℕ → ℕ → ℕ → Bool
follows t ys u w q d = (ltb u d && (ltb w d && ltb q d)) && any (all (linked t ys u w q d)) (ways t)

-- by any corner
abbrev pub follows_any : Template → ℕ → ℕ → ℕ → Bool
follows_any t x i d = follows t (up_to t.corners) (look x i) (look x (i + 1)) (look x (i + 2)) d

unfoldable is_ahead : Template → ℕ → ℕ → Bool
is_ahead t x d = eqb (look x 0) (look x 1) || (follows_any t x 0 d && follows_any t x 3 d)

unfoldable are_ahead : Template → ℕ → Bool
are_ahead t b = all (λ d. is_ahead t (b + d) d) (up_to t.corners)

ahead8 : are_ahead hexahedron 0 ≡ true
unfolding ways covered linked follows is_ahead are_ahead one_diagonal other_diagonal
ahead8 = refl

ahead6 : are_ahead prism 8 ≡ true
unfolding ways covered linked follows is_ahead are_ahead one_diagonal other_diagonal
ahead6 = refl

ahead5 : are_ahead pyramid 14 ≡ true
unfolding ways covered linked follows is_ahead are_ahead one_diagonal other_diagonal
ahead5 = refl

all-ahead : (k : ℕ) → are_ahead (template_of k) (base k) ≡ true
all-ahead k = go (eqb k 8) (eqb k 6)
  where
    go : (a b : Bool) → are_ahead (cond a hexahedron (cond b prism pyramid)) (cond a 0 (cond b 8 14)) ≡ true
    go true b = ahead8
    go false true = ahead6
    go false false = ahead5

or-second : (a b : Bool) → (a || b) ≡ true → a ≡ false → b ≡ true
or-second true b e f = absurd (true≢false f)
or-second false b e f = e

pub ahead-at : (k d : ℕ) → d < (template_of k).corners → eqb (look (base k + d) 0) (look (base k + d) 1) ≡ false → (follows_any (template_of k) (base k + d) 0 d ≡ true) × (follows_any (template_of k) (base k + d) 3 d ≡ true)
unfolding is_ahead are_ahead
ahead-at k d h l =
    let t = template_of k in
    let x = base k + d in
    let e = all-at (λ d. is_ahead t (base k + d) d) (up_to t.corners) (all-ahead k) (from-has 0 t.corners d (omega arith) (omega arith)) in
    let f = or-second (eqb (look x 0) (look x 1)) _ e l in
    (both_left (follows_any t x 0 d) _ f, both_right (follows_any t x 0 d) _ f)

pub follows-below : (t : Template) (ys : List ℕ) (u w q d : ℕ) → follows t ys u w q d ≡ true → ((u < d) × (w < d)) × (q < d)
unfolding follows
follows-below t ys u w q d e =
    let f = both_left (ltb u d && (ltb w d && ltb q d)) _ e in
    let g = both_right (ltb u d) _ f in
    ((ltb-true u d (both_left (ltb u d) _ f), ltb-true w d (both_left (ltb w d) _ g)), ltb-true q d (both_right (ltb w d) _ g))

-- the rows before 14 but the first of a kind ask for a vertex above the first
unfoldable is_floored : ℕ → Bool
is_floored x = (eqb x 0 || eqb x 8) || ltb 0 (get_or lesser x 0)

all_floored : all is_floored (up_to 14) ≡ true
unfolding is_floored
all_floored = refl

pub floored : (k d y : ℕ) → 0 < y → y < (template_of k).corners → ltb (base k + d) 14 ≡ true → 0 < get_or lesser (base k + y) 0
unfolding is_floored
floored k d y z h e =
    let r = go (eqb k 8) (eqb k 6) h (ltb-true (base k + d) 14 e) in
    let x = base k + y in
    let f = all-at is_floored (up_to 14) all_floored (from-has 0 14 x (omega arith) (omega (arith, r.0))) in
    ltb-true 0 (get_or lesser x 0) (or-second (eqb x 0 || eqb x 8) _ f (rw (ne_eqb x 0 (λ i. omega arith), ne_eqb x 8 r.1)))
  where
    go : (a b : Bool) → y < (cond a hexahedron (cond b prism pyramid)).corners → cond a 0 (cond b 8 14) + d < 14 → (cond a 0 (cond b 8 14) + y < 14) × (cond a 0 (cond b 8 14) + y ≡ 8 → ⊥)
    go true b h e = (omega arith, λ i. omega arith)
    go false true h e = (omega arith, λ i. omega arith)
    go false false h e = absurd (omega arith)

-- ── rows 3, 11 and 16 ──

-- place 3 follows the places 0 and 2, and 0 and 1, each by itself or by one other corner
pub record Sides (t : Template) (a b : ℕ) : Type 0 where
  pub one : follows t (3 ∷ a ∷ []) 0 2 1 3 ≡ true
  pub two : follows t (3 ∷ b ∷ []) 0 1 2 3 ≡ true

sides8 : Sides hexahedron 6 5
unfolding ways covered linked follows one_diagonal other_diagonal
sides8 = record { one = refl; two = refl }

sides6 : Sides prism 5 4
unfolding ways covered linked follows one_diagonal other_diagonal
sides6 = record { one = refl; two = refl }

-- and place 2 follows the places 0 and 1 by itself or by place 4
low8 : follows hexahedron (2 ∷ 4 ∷ []) 0 1 1 2 ≡ true
unfolding ways covered linked follows one_diagonal other_diagonal
low8 = refl

-- place 2 of the pyramid follows the places 1 and 0 by the apex, and by another corner
pub record Twice (t : Template) : Type 0 where
  pub apex : follows t (4 ∷ []) 1 0 0 2 ≡ true
  pub side : follows t (2 ∷ 3 ∷ []) 1 0 0 2 ≡ true

twice5 : Twice pyramid
unfolding ways covered linked follows one_diagonal other_diagonal
twice5 = record { apex = refl; side = refl }

-- row 3 is place 3 of the hexahedron
pub record RowThree (k d : ℕ) : Type 0 where
  pub place : d ≡ 3
  pub low : follows (template_of k) (2 ∷ 4 ∷ []) 0 1 1 2 ≡ true
  pub sides : Sides (template_of k) 6 5

pub row_three : (k d : ℕ) → d < (template_of k).corners → base k + d ≡ 3 → RowThree k d
row_three k d h e = let r = go (eqb k 8) (eqb k 6) h e in record { place = r.0; low = r.1; sides = r.2 }
  where
    go : (a b : Bool) → d < (cond a hexahedron (cond b prism pyramid)).corners → cond a 0 (cond b 8 14) + d ≡ 3 → (d ≡ 3) × (follows (cond a hexahedron (cond b prism pyramid)) (2 ∷ 4 ∷ []) 0 1 1 2 ≡ true) × Sides (cond a hexahedron (cond b prism pyramid)) 6 5
    go true b h e = (omega arith, low8, sides8)
    go false true h e = absurd (omega arith)
    go false false h e = absurd (omega arith)

-- row 11 is place 3 of the prism
pub row_eleven : (k d : ℕ) → d < (template_of k).corners → base k + d ≡ 11 → (d ≡ 3) × Sides (template_of k) 5 4
row_eleven k d h e = go (eqb k 8) (eqb k 6) h e
  where
    go : (a b : Bool) → d < (cond a hexahedron (cond b prism pyramid)).corners → cond a 0 (cond b 8 14) + d ≡ 11 → (d ≡ 3) × Sides (cond a hexahedron (cond b prism pyramid)) 5 4
    go true b h e = absurd (omega arith)
    go false true h e = (omega arith, sides6)
    go false false h e = absurd (omega arith)

-- row 16 is place 2 of the pyramid
pub row_sixteen : (k d : ℕ) → d < (template_of k).corners → base k + d ≡ 16 → (d ≡ 2) × Twice (template_of k)
row_sixteen k d h e = go (eqb k 8) (eqb k 6) h e
  where
    go : (a b : Bool) → d < (cond a hexahedron (cond b prism pyramid)).corners → cond a 0 (cond b 8 14) + d ≡ 16 → (d ≡ 2) × Twice (cond a hexahedron (cond b prism pyramid))
    go true b h e = absurd (omega arith)
    go false true h e = absurd (omega arith)
    go false false h e = (omega arith, twice5)

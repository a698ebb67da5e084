-- The rows of the rotation tables: each is an arrangement of the corners that takes edges to edges, faces to faces and
-- each corner with its neighbours to a corner with its neighbours, in the same hand. One computed test says so of all.
-- Assumes nothing.
use Prim.Native.Nat.{ℕ, ◌<◌}
use mathlib.Core.Path.{◌≡◌, refl, sym, ◌∙◌, ap}
use mathlib.Core.Bool.{Bool, true, ◌&&◌}
use mathlib.Core.List.{List, [], ◌∷◌, map, Memᴰ}
use lib.Dec.{eqb}
use lib.ListN.{length, get_or, length-map}
use native.Mathlib.Omega.{arith}
use borrow.Author.Tests.{eqb-true}
use Rattle.base.specs.Lists.{all, any, every, up_to, is_in, distinct, equal}
use Rattle.base.proofs.Lists.{both_left, both_right, all-at}
use Rattle.base.proofs.Members.{all_map}
use Rattle.base.proofs.Runs.{any-map}
use Rattle.templates.specs.Tables.{Template, templates, at}
use Rattle.templates.proofs.Tests.{part, agree, covers, same-all, same-any, get_d_map, in_range, at_at, at_all, is_in-at, at-is_in, is_in-up_to, up_to-is_in, distinct-at, at-distinct}

-- ---- the test of a row

-- the row r takes the corners ks to js
unfoldable pub goes_to : List ℕ → List ℕ → List ℕ → Bool
goes_to r ks js = in_range (length r) ks && covers eqb (at r ks) js

-- a corner with its three neighbours to another with its three, changed by one of these
unfoldable pub corner_to : List (List ℕ) → List ℕ → List ℕ → List ℕ → Bool
corner_to ps r ks js = every (in_range (length r) ks ∷ equal (at (at r ks) (0 ∷ 1 ∷ 2 ∷ 3 ∷ [])) (at r ks) ∷ any (λ p. equal (at (at r ks) p) js) ps ∷ [])

-- the neighbours in the same hand, and in the other hand
abbrev pub even : List (List ℕ)
even = (0 ∷ 1 ∷ 2 ∷ 3 ∷ []) ∷ (0 ∷ 2 ∷ 3 ∷ 1 ∷ []) ∷ (0 ∷ 3 ∷ 1 ∷ 2 ∷ []) ∷ []

abbrev pub odd : List (List ℕ)
odd = (0 ∷ 2 ∷ 1 ∷ 3 ∷ []) ∷ (0 ∷ 1 ∷ 3 ∷ 2 ∷ []) ∷ (0 ∷ 3 ∷ 2 ∷ 1 ∷ []) ∷ []

-- the row is an arrangement of the corners
unfoldable pub corner_tests : Template → List ℕ → List Bool
corner_tests t r = eqb (length r) t.corners ∷ distinct r ∷ covers eqb r (up_to t.corners) ∷ []

-- it takes edges to edges, faces to faces, and corner triples to corner triples in the hand of ps
unfoldable pub table_tests : List (List ℕ) → Template → List ℕ → List Bool
table_tests ps t r =
    every (corner_tests t r) ∷
    covers (goes_to r) t.edges t.edges ∷
    covers (goes_to r) t.triangles t.triangles ∷
    covers (goes_to r) t.quads t.quads ∷
    covers (corner_to ps r) t.triples t.triples ∷
    []

-- every row of a table is a rotation: it keeps edges, faces and handedness
unfoldable pub keeps : Template → List ℕ → Bool
keeps t r = every (table_tests even t r)

pub rows : all (λ t. all (keeps t) t.turns) templates ≡ true
unfolding keeps corner_tests table_tests covers goes_to equal corner_to
rows = refl

pub row_keeps : {t : Template} {r : List ℕ} → Memᴰ t templates → Memᴰ r t.turns → keeps t r ≡ true
row_keeps {t} h k = all-at (keeps t) t.turns (all-at (λ t. all (keeps t) t.turns) templates rows h) k

pub counts : map (λ (t : Template). length t.turns) templates ≡ 24 ∷ 6 ∷ 4 ∷ []
counts = refl

-- the mirror row keeps edges and faces, and turns handedness over
pub mirrored : all (λ t. every (table_tests odd t t.mirror)) templates ≡ true
unfolding keeps corner_tests table_tests covers goes_to equal corner_to
mirrored = refl

-- ---- what a row takes to one another

module _ (r c : List ℕ) (ks js : List ℕ) (e : goes_to r ks js ≡ true) (p : ℕ → Bool) where
  pub goes_all : all p (at (at c r) ks) ≡ all p (at c js)
  unfolding goes_to
  goes_all =
      ap (all p) (at_at c r ks (both_left _ _ e))
      ∙ all_map p (λ k. get_or c k 0) (at r ks)
      ∙ same-all (λ k. p (get_or c k 0)) (at r ks) js (both_right (in_range (length r) ks) _ e)
      ∙ sym (all_map p (λ k. get_or c k 0) js)

  pub goes_any : any p (at (at c r) ks) ≡ any p (at c js)
  unfolding goes_to
  goes_any =
      ap (any p) (at_at c r ks (both_left _ _ e))
      ∙ any-map p (λ k. get_or c k 0) (at r ks)
      ∙ same-any (λ k. p (get_or c k 0)) (at r ks) js (both_right (in_range (length r) ks) _ e)
      ∙ sym (any-map p (λ k. get_or c k 0) js)

-- ---- any arrangement of the corners

module _ (t : Template) (r c : List ℕ) (k : every (corner_tests t r) ≡ true) (l : length c ≡ t.corners) where
  pub size : length r ≡ t.corners
  unfolding corner_tests
  size = eqb-true _ _ (part (corner_tests t r) k 0)

  row : distinct r ≡ true
  unfolding corner_tests
  row = part (corner_tests t r) k 1

  onto : covers eqb r (up_to (length c)) ≡ true
  unfolding corner_tests
  onto = rw l (part (corner_tests t r) k 2)

  pub corners-all : (p : ℕ → Bool) → all p (at c r) ≡ all p c
  corners-all p =
      all_map p (λ k. get_or c k 0) r
      ∙ same-all (λ k. p (get_or c k 0)) r (up_to (length c)) onto
      ∙ sym (all_map p (λ k. get_or c k 0) (up_to (length c)))
      ∙ ap (all p) (at_all c)

  pub corners-any : (p : ℕ → Bool) → any p (at c r) ≡ any p c
  corners-any p =
      any-map p (λ k. get_or c k 0) r
      ∙ same-any (λ k. p (get_or c k 0)) r (up_to (length c)) onto
      ∙ sym (any-map p (λ k. get_or c k 0) (up_to (length c)))
      ∙ ap (any p) (at_all c)

  number : (v : ℕ) → is_in v r ≡ is_in v (up_to (length c))
  number v = same-any (eqb v) r (up_to (length c)) onto

  reach : (i : ℕ) → i < length r → get_or r i 0 < length c
  reach i h = is_in-up_to _ _ (sym (number (get_or r i 0)) ∙ is_in-at r i h)

  reached : (i : ℕ) → i < length c → (a : ℕ) × (a < length r) × (get_or r a 0 ≡ i)
  reached i h = at-is_in r i (number i ∙ up_to-is_in i (length c) h)

  pub turned-at : (a : ℕ) → a < length r → get_or (at c r) a 0 ≡ get_or c (get_or r a 0) 0
  turned-at a h = get_d_map (λ k. get_or c k 0) r a h

  pub turned-length : length (at c r) ≡ length r
  turned-length = length-map r (λ k. get_or c k 0)

  pub turned-distinct : distinct (at c r) ≡ distinct c
  turned-distinct =
      agree _ _
      (λ e. at-distinct c (λ i j h k q.
      let a = reached i h in
      let b = reached j k in
      let w = distinct-at (at c r) e a.0 b.0 (omega (arith, turned-length)) (omega (arith, turned-length)) (turned-at a.0 a.1 ∙ ap (λ x. get_or c x 0) a.2 ∙ q ∙ ap (λ x. get_or c x 0) (sym b.2) ∙ sym (turned-at b.0 b.1)) in
      sym a.2 ∙ ap (λ x. get_or r x 0) w ∙ b.2))
      (λ e. at-distinct (at c r) (λ i j h k q.
      let x : i < length r = omega (arith, turned-length) in
      let y : j < length r = omega (arith, turned-length) in
      distinct-at r row i j x y (distinct-at c e (get_or r i 0) (get_or r j 0) (reach i x) (reach j y) (sym (turned-at i x) ∙ q ∙ turned-at j y))))

module _ (t : Template) (r : List ℕ) (k : keeps t r ≡ true) where
  pub row-corners : every (corner_tests t r) ≡ true
  unfolding keeps table_tests
  row-corners = part (table_tests even t r) k 0

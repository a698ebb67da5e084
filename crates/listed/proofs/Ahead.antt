-- A listed tuple has at each place a vertex that follows the pairs of places which the table of the look-ahead names.
-- Assumes nothing.
use Prim.Native.Nat.{ℕ, ◌+◌, ◌<◌, ◌≤◌}
use mathlib.Core.Path.{◌≡◌, refl, sym, ◌∙◌, ap, fun_ext}
use mathlib.Core.Logic.{◌⊎◌, inl, inr, ⊎_elim}
use mathlib.Core.Bool.{Bool, true, false, not, cond, ◌&&◌, ◌||◌, false≢true}
use mathlib.Core.List.{List, [], ◌∷◌, map, Memᴰ}
use native.Mathlib.Omega.{arith}
use borrow.Author.Tests.{eqb-true, eqb-false, ne_eqb, ltb-true, lt-ltb, le-leb, not-true}
use lib.Dec.{eqb, ltb}
use lib.IntN.{ℤ}
use lib.ListN.{length, get_or}
use Rattle.base.specs.Lists.{all, any, up_to, is_in}
use Rattle.base.proofs.Bools.{or-false, or-either}
use Rattle.base.proofs.Lists.{both_left, both_right, all-at, any_at}
use Rattle.base.proofs.Members.{all_map, all_both}
use Rattle.space.specs.Mesh.{Mesh, together, holds}
use Rattle.space.specs.Arrays.{mesh_of}
use Rattle.tets_around.proofs.Around.{together-in}
use Rattle.tets_around.specs.between.Index.{Labelled}
use Rattle.tets_around.specs.Sharing.{together_in}
use Rattle.neighbours.specs.between.Reading.{Tabled}
use Rattle.facet_hints.specs.between.Hints.{HintsOf}
use Rattle.templates.specs.Tables.{Template, template_of, at}
use Rattle.cells.specs.Cells.{one_diagonal, other_diagonal, is_facet, is_split, has_faces}
use Rattle.rule.specs.between.Leaf.{is_leaf}
use Rattle.reaching.specs.between.Reaching.{may_link, Closes, Links}
use Rattle.levels.specs.between.Levels.{base, lesser, look}
use Rattle.aims.specs.between.Aims.{face_edge, LinksFirst, Aims}
use Rattle.hunting.specs.between.Goes.{floor_of, face_edge_at, Follows}
use Rattle.levels.proofs.Right.{at_place}
use Rattle.levels.proofs.Following.{ways, covered, linked, follows, follows_any, ahead-at, follows-below, floored, Sides, Twice, RowThree, row_three, row_eleven, row_sixteen}
use Rattle.listed.proofs.Prune.{leaf-faces, leaf-small}
use Rattle.listed.proofs.Above.{leaf_above}
use Rattle.listed.proofs.Joined.{leaf_apart}
use Rattle.listed.proofs.Rows.{facet-faces}

-- ── facets ──

or_right : (a : Bool) {b : Bool} → b ≡ true → (a || b) ≡ true
or_right true e = refl
or_right false e = e

-- what holds of a map's values holds at each that is in the list
in_map : (p : ℕ → Bool) (f : ℕ → ℕ) (k : ℕ) (xs : List ℕ) → all p (map f xs) ≡ true → is_in k xs ≡ true → p (f k) ≡ true
in_map p f k [] a e = absurd (false≢true e)
in_map p f k (x ∷ xs) a e =
    or-either (eqb k x) (is_in k xs) e (λ g. ap (λ y. p (f y)) (eqb-true k x g) ∙ both_left (p (f x)) _ a) (in_map p f k xs (both_right (p (f x)) _ a))

all_in : (p : ℕ → Bool) (f : ℕ → ℕ) (xs ks : List ℕ) → all p (map f xs) ≡ true → all (λ k. is_in k xs) ks ≡ true → all p (map f ks) ≡ true
all_in p f xs [] a e = refl
all_in p f xs (k ∷ ks) a e = rw (in_map p f k xs a (both_left (is_in k xs) _ e), all_in p f xs ks a (both_right (is_in k xs) _ e))

any-more : {A : Type 0} (p q : A → Bool) → ((x : A) → p x ≡ true → q x ≡ true) → (xs : List A) → any p xs ≡ true → any q xs ≡ true
any-more p q f [] e = e
any-more p q f (x ∷ xs) e = or-either (p x) (any p xs) e (λ g. rw (f x g)) (λ g. or_right (q x) (any-more p q f xs g))

-- vertices that are among those of a facet stand together
among : (m : Mesh) (s xs ks : List ℕ) → together m (at s xs) ≡ true → all (λ k. is_in k xs) ks ≡ true → together m (at s ks) ≡ true
unfolding together
among m s xs ks e a =
    any-more (holds (at s xs)) (holds (at s ks)) (λ e h. all_in (λ v. is_in v e.vertices) (λ k. get_or s k 0) xs ks h a) m.tets e

at_at : (s ps ks : List ℕ) → all (λ k. ltb k (length ps)) ks ≡ true → at (at s ps) ks ≡ at s (at ps ks)
at_at s ps [] e = refl
at_at s ps (k ∷ ks) e = rw (at_place s ps k (ltb-true k (length ps) (both_left (ltb k (length ps)) _ e)), at_at s ps ks (both_right (ltb k (length ps)) _ e))

-- ── a listed tuple ──

one_of : {y a b : ℕ} → Memᴰ y (a ∷ b ∷ []) → (y ≡ a) ⊎ (y ≡ b)
one_of (Memᴰ.head e) = inl e
one_of {y = y} {a = a} {b = b} (Memᴰ.tail (Memᴰ.tail x8)) = elim x8 [ ]
one_of (Memᴰ.tail (Memᴰ.head e)) = inr e

clash : {y q a : ℕ} → (y ≡ 3) ⊎ (y ≡ a) → (q ≡ 2) ⊎ (q ≡ 4) → 4 < a → (y ≡ q → ⊥)
clash (inl i) (inl j) h e = omega arith
clash (inl i) (inr j) h e = omega arith
clash (inr i) (inl j) h e = omega arith
clash (inr i) (inr j) h e = omega arith

split : (b : Bool) {P : Type 0} → (b ≡ true → P) → (b ≡ false → P) → P
split true f g = f refl
split false f g = g refl

-- y is o or p, or neither
of_two : (y o p : ℕ) → ((y ≡ o) ⊎ (y ≡ p)) ⊎ ((eqb y o ≡ false) × (eqb y p ≡ false))
of_two y o p = split (eqb y o) (λ e. inl (inl (eqb-true y o e))) (λ e. split (eqb y p) (λ f. inl (inr (eqb-true y p f))) (λ f. inr (e, f)))

-- two of which each is o or p are the same, where a third one is o or p and neither of them is it
other-of : {y z m o p : ℕ} → (y ≡ o) ⊎ (y ≡ p) → (z ≡ o) ⊎ (z ≡ p) → (m ≡ o) ⊎ (m ≡ p) → (y ≡ m → ⊥) → (z ≡ m → ⊥) → y ≡ z
other-of (inl i) (inl j) c f g = i ∙ sym j
other-of (inr i) (inr j) c f g = i ∙ sym j
other-of (inl i) (inr j) (inl c) f g = absurd (f (i ∙ sym c))
other-of (inl i) (inr j) (inr c) f g = absurd (g (j ∙ sym c))
other-of (inr i) (inl j) (inl c) f g = absurd (g (j ∙ sym c))
other-of (inr i) (inl j) (inr c) f g = absurd (f (i ∙ sym c))

module _ (zs : List ℤ) (ls ps : List ℕ) (k : ℕ) (s : List ℕ) (leaf : is_leaf (mesh_of zs ls ps) (template_of k) s ≡ true) where
  abbrev m : Mesh
  m = mesh_of zs ls ps

  abbrev t : Template
  t = template_of k

  abbrev c : List ℕ
  c = at s t.places

  same_place : (y q : ℕ) → y < (template_of k).corners → q < (template_of k).corners → get_or s y 0 ≡ get_or s q 0 → y ≡ q
  same_place y q h i e =
      split (eqb y q) (eqb-true y q) (λ f. absurd (eqb-false (get_or s y 0) (get_or s q 0) (leaf_apart zs ls ps k s leaf y q h i (eqb-false y q f)) e))

  ways_hold : all (any (all (is_facet m t c))) (ways t) ≡ true
  unfolding ways has_faces is_split
  ways_hold =
      let f = leaf-faces zs ls ps k s leaf in
      all_both (any (all (is_facet m t c))) (map (λ q. one_diagonal q ∷ other_diagonal q ∷ []) t.quads) ((t.triangles ∷ []) ∷ [])
      (all_map (any (all (is_facet m t c))) (λ q. one_diagonal q ∷ other_diagonal q ∷ []) t.quads
      ∙ ap (λ p. all p t.quads) (fun_ext (λ q. ap (λ b. all (is_facet m t c) (one_diagonal q) || b) (or-false (all (is_facet m t c) (other_diagonal q)))))
      ∙ both_right (all (is_facet m t c) t.triangles) _ f)
      (rw (both_left (all (is_facet m t c) t.triangles) _ f))

  stands : (ks : List ℕ) (fs : List (List ℕ)) → all (is_facet m t c) fs ≡ true → covered t ks fs ≡ true → together_in ls (at s ks) ≡ true
  unfolding covered is_facet
  stands ks fs a e =
      let r = any_at (λ f. all (λ k. ltb k (length t.places)) f && all (λ k. is_in k (at t.places f)) ks) fs e in
      let f = r.0 in
      let g = all-at (λ f. together m (at c f)) fs a r.1 in
      let b = both_left (all (λ k. ltb k (length t.places)) f) _ r.2 in
      sym (together-in zs ls ps (at s ks))
      ∙ among m s (at t.places f) ks (ap (together m) (sym (at_at s t.places f b)) ∙ g) (both_right (all (λ k. ltb k (length t.places)) f) _ r.2)

  -- a corner of the listed tuple that links three, at one of the places ys and not at q
  pub record Linking (ys : List ℕ) (u w q d : ℕ) : Type 0 where
    pub place : ℕ
    pub among : Memᴰ place ys
    pub inside : place < (template_of k).corners
    pub later : 0 < place
    pub other : eqb (get_or s place 0) (get_or s u 0) ≡ false
    pub further : eqb (get_or s place 0) (get_or s w 0) ≡ false
    pub aside : eqb (get_or s place 0) (get_or s q 0) ≡ false
    pub near : together_in ls (get_or s u 0 ∷ get_or s w 0 ∷ get_or s place 0 ∷ []) ≡ true
    pub facet : together_in ls (get_or s u 0 ∷ get_or s place 0 ∷ get_or s d 0 ∷ []) ≡ true

  linking : (ys : List ℕ) (u w q d : ℕ) → u < (template_of k).corners → w < (template_of k).corners → q < (template_of k).corners → (fs : List (List ℕ)) → all (is_facet m t c) fs ≡ true → linked t ys u w q d fs ≡ true → Linking ys u w q d
  unfolding linked
  linking ys u w q d h i j fs a l =
      let r = any_at (λ y. ((ltb y t.corners && ltb 0 y) && (not (eqb y u) && (not (eqb y w) && not (eqb y q)))) && (covered t (u ∷ w ∷ y ∷ []) fs && covered t (u ∷ y ∷ d ∷ []) fs)) ys l in
      let y = r.0 in
      let p = both_left ((ltb y t.corners && ltb 0 y) && (not (eqb y u) && (not (eqb y w) && not (eqb y q)))) _ r.2 in
      let b = both_right ((ltb y t.corners && ltb 0 y) && (not (eqb y u) && (not (eqb y w) && not (eqb y q)))) _ r.2 in
      let n = both_left (ltb y t.corners && ltb 0 y) _ p in
      let o = both_right (ltb y t.corners && ltb 0 y) _ p in
      let e = both_right (not (eqb y u)) _ o in
      let g = ltb-true y t.corners (both_left (ltb y t.corners) _ n) in
      let differs : (x : ℕ) → x < t.corners → not (eqb y x) ≡ true → eqb (get_or s y 0) (get_or s x 0) ≡ false =
      λ x l e. leaf_apart zs ls ps k s leaf y x g l (eqb-false y x (not-true (eqb y x) e)) in
      record {
        place = y;
        among = r.1;
        inside = g;
        later = ltb-true 0 y (both_right (ltb y t.corners) _ n);
        other = differs u h (both_left (not (eqb y u)) _ o);
        further = differs w i (both_left (not (eqb y w)) _ e);
        aside = differs q j (both_right (not (eqb y w)) _ e);
        near = stands (u ∷ w ∷ y ∷ []) fs a (both_left (covered t (u ∷ w ∷ y ∷ []) fs) _ b);
        facet = stands (u ∷ y ∷ d ∷ []) fs a (both_right (covered t (u ∷ w ∷ y ∷ []) fs) _ b);
      }

  pub leaf-links : (ys : List ℕ) (u w q d : ℕ) → d < (template_of k).corners → follows (template_of k) ys u w q d ≡ true → Linking ys u w q d
  unfolding follows
  leaf-links ys u w q d h e =
      let low = follows-below t ys u w q d e in
      let way = any_at (all (linked t ys u w q d)) (ways t) (both_right (ltb u d && (ltb w d && ltb q d)) _ e) in
      let fs = any_at (all (is_facet m t c)) way.0 (all-at (any (all (is_facet m t c))) (ways t) ways_hold way.1) in
      linking ys u w q d (omega (arith, low.0.0)) (omega (arith, low.0.1)) (omega (arith, low.1)) fs.0 fs.2 (all-at (linked t ys u w q d) way.0 way.2 fs.1)

  -- ── what follows of an aim ──

  above_first : (y : ℕ) → 0 < y → y < (template_of k).corners → 0 < get_or lesser (base k + y) 0 → get_or s 0 0 + 1 ≤ get_or s y 0
  above_first y z h e = omega (arith, leaf_above zs ls ps k s leaf y h 0 e)

  above_floor : (d y : ℕ) → 0 < y → y < (template_of k).corners → floor_of s (base k + d) ≤ get_or s y 0
  above_floor d y z h = go (ltb (base k + d) 14) (λ e. above_first y z h (floored k d y z h e))
    where
      go : (b : Bool) → (b ≡ true → get_or s 0 0 + 1 ≤ get_or s y 0) → cond b (get_or s 0 0 + 1) 0 ≤ get_or s y 0
      go true f = f refl
      go false f = omega arith

  module _ {n : ℕ} {table hs : List ℕ} (labelled : Labelled ls n) (tabled : Tabled ls n table) (hinted : HintsOf ls hs) where
    links-by : {ys : List ℕ} {u w q d : ℕ} (l : Linking ys u w q d) (floor o p : ℕ) → u < d → d < (template_of k).corners → floor ≤ get_or s l.place 0 → eqb (get_or s l.place 0) o ≡ false → eqb (get_or s l.place 0) p ≡ false → Links n table hs (face_edge (get_or s u 0) (get_or s w 0) floor o p (get_or s q 0)) (get_or s l.place 0) (get_or s d 0)
    unfolding may_link
    links-by {ys} {u} {w} {q} {d} l floor o p i h f e g = record {
      may = rw (l.other, l.further, le-leb floor (get_or s l.place 0) f, e, g, l.aside);
      near = facet-faces labelled tabled hinted (get_or s u 0) (get_or s w 0) (get_or s l.place 0) l.near l.other;
      facet = facet-faces labelled tabled hinted (get_or s u 0) (get_or s l.place 0) (get_or s d 0) l.facet (leaf_apart zs ls ps k s leaf d u h (omega arith) (λ r. omega arith));
    }

    -- where the linking corner is neither o nor p
    closes_by : {ys : List ℕ} {u w q d : ℕ} (x : ℕ) (l : Linking ys u w q d) (o p : ℕ) → u < d → d < (template_of k).corners → eqb (get_or s l.place 0) o ≡ false → eqb (get_or s l.place 0) p ≡ false → Closes n table hs (face_edge (get_or s u 0) (get_or s w 0) (floor_of s (base k + x)) o p (get_or s q 0)) (get_or s d 0)
    closes_by {ys} {u} {w} {q} {d} x l o p i h e g = record {
      via = get_or s l.place 0;
      by = links-by l (floor_of s (base k + x)) o p i h (above_floor x l.place l.later l.inside) e g;
    }

    -- where p is no vertex
    closes_any : length (mesh_of zs ls ps).points ≤ 512 → (i d : ℕ) → d < (template_of k).corners → follows_any (template_of k) (base k + d) i d ≡ true → {p : ℕ} → p ≡ 65535 → Closes n table hs (face_edge_at s (base k + d) i p p) (get_or s d 0)
    closes_any few i d h e {p} q =
        let x = base k + d in
        let l = leaf-links (up_to t.corners) (look x i) (look x (i + 1)) (look x (i + 2)) d h e in
        let b = follows-below t (up_to t.corners) (look x i) (look x (i + 1)) (look x (i + 2)) d e in
        let f = ne_eqb (get_or s l.place 0) p (λ r. omega (arith, leaf-small zs ls ps k s leaf l.place l.inside)) in
        closes_by d l p p b.0.0 h f f

    -- the corner that links the first three links no side face
    apart_low : {a w q : ℕ} (l : Linking (3 ∷ a ∷ []) 0 w q 3) (r : Linking (2 ∷ 4 ∷ []) 0 1 1 2) → 4 < a → eqb (get_or s l.place 0) (get_or s r.place 0) ≡ false
    apart_low l r f = leaf_apart zs ls ps k s leaf l.place r.place l.inside r.inside (clash (one_of l.among) (one_of r.among) f)

    module _ {a b : ℕ} (x : ℕ) (h : 3 < (template_of k).corners) (e : Sides (template_of k) a b) (z : a ≡ b → ⊥) (o p : ℕ) where
      abbrev Sided : Type 0
      Sided =
          ((get_or s 3 0 ≡ o) ⊎ (get_or s 3 0 ≡ p))
          ⊎ (Closes n table hs (face_edge (get_or s 0 0) (get_or s 2 0) (floor_of s (base k + x)) o p (get_or s 1 0)) (get_or s 3 0)
          ⊎ Closes n table hs (face_edge (get_or s 0 0) (get_or s 1 0) (floor_of s (base k + x)) o p (get_or s 2 0)) (get_or s 3 0))

      three : {y q : ℕ} → y ≡ q → (y ≡ 3) ⊎ (y ≡ a) → (q ≡ 3) ⊎ (q ≡ b) → y ≡ 3
      three c (inl i) j = i
      three c (inr i) (inl j) = c ∙ j
      three c (inr i) (inr j) = absurd (z (sym i ∙ c ∙ j))

      -- a side face whose linking corner is neither o nor p closes;
      -- where both linking corners are of them, what they are decides
      sided : ((l : Linking (3 ∷ a ∷ []) 0 2 1 3) (r : Linking (3 ∷ b ∷ []) 0 1 2 3) → ((get_or s l.place 0 ≡ o) ⊎ (get_or s l.place 0 ≡ p)) → ((get_or s r.place 0 ≡ o) ⊎ (get_or s r.place 0 ≡ p)) → get_or s l.place 0 ≡ get_or s r.place 0) → Sided
      sided same =
          let l = leaf-links (3 ∷ a ∷ []) 0 2 1 3 h e.one in
          let r = leaf-links (3 ∷ b ∷ []) 0 1 2 3 h e.two in
          ⊎_elim
          (λ f.
          ⊎_elim
          (λ g.
          let i = three (same_place l.place r.place l.inside r.inside (same l r f g)) (one_of l.among) (one_of r.among) in
          inl (rw i at f))
          (λ g. inr (inr (closes_by x r o p (omega arith) h g.0 g.1)))
          (of_two (get_or s r.place 0) o p))
          (λ f. inr (inl (closes_by x l o p (omega arith) h f.0 f.1)))
          (of_two (get_or s l.place 0) o p)

      -- whatever it is, where o and p are one: the two linking corners are then one corner, and so place 3
      sided_one : o ≡ p → Sided
      sided_one q = sided (λ l r f g. is_one f ∙ sym (is_one g))
        where
          is_one : {y : ℕ} → (y ≡ o) ⊎ (y ≡ p) → y ≡ p
          is_one (inl i) = i ∙ q
          is_one (inr i) = i

      -- and where o or p is the corner that links the first three
      sided_two : (m : Linking (2 ∷ 4 ∷ []) 0 1 1 2) → (get_or s m.place 0 ≡ o) ⊎ (get_or s m.place 0 ≡ p) → 4 < a → 4 < b → Sided
      sided_two m c i j =
          sided (λ l r f g. other-of f g c (eqb-false _ _ (apart_low l m i)) (eqb-false _ _ (apart_low r m j)))

    -- whatever p is: the apex and another corner link the first three of a pyramid, and p is one of them at most
    closes_twice : (x : ℕ) → 2 < (template_of k).corners → Twice (template_of k) → (p : ℕ) → Closes n table hs (face_edge (get_or s 1 0) (get_or s 0 0) (floor_of s (base k + x)) p p (get_or s 0 0)) (get_or s 2 0)
    closes_twice x h e p =
        let l = leaf-links (4 ∷ []) 1 0 0 2 h e.apex in
        let r = leaf-links (2 ∷ 3 ∷ []) 1 0 0 2 h e.side in
        split (eqb (get_or s l.place 0) p)
        (λ f.
        let g = ap (eqb (get_or s r.place 0)) (sym (eqb-true (get_or s l.place 0) p f)) ∙ leaf_apart zs ls ps k s leaf r.place l.place r.inside l.inside (apart (one_of r.among) (only_of l.among)) in
        closes_by x r p p (omega arith) h g g)
        (λ f. closes_by x l p p (omega arith) h f f)
      where
        only_of : {y a : ℕ} → Memᴰ y (a ∷ []) → y ≡ a
        only_of {y = y} {a = a} (Memᴰ.tail x5) = elim x5 [ ]
        only_of (Memᴰ.head e) = e

        apart : {y q : ℕ} → (y ≡ 2) ⊎ (y ≡ 3) → q ≡ 4 → (y ≡ q → ⊥)
        apart (inl i) j e = omega arith
        apart (inr i) j e = omega arith

    -- the corner that links the first three
    first-links : (l : Linking (2 ∷ 4 ∷ []) 0 1 1 2) → 2 < (template_of k).corners → 0 < get_or lesser (base k + l.place) 0 → LinksFirst n table hs s (get_or s l.place 0)
    first-links l h e =
        links-by l (get_or s 0 0 + 1) (get_or s 1 0) (get_or s 1 0) (omega arith) h (above_first l.place l.later l.inside e) l.further l.further

    -- whatever is known of the aim, there is some, and the listed tuple's vertex follows by it
    pub leaf_aims : length (mesh_of zs ls ps).points ≤ 512 → (d : ℕ) → d < (template_of k).corners → eqb (look (base k + d) 0) (look (base k + d) 1) ≡ false → {some both : Bool} {o p : ℕ} → Aims (LinksFirst n table hs s) (base k + d) some both o p → (some ≡ true) × Follows n table hs s (base k + d) o p both (get_or s d 0)
    leaf_aims few d h z {some} {both} {o} {p} q =
        (split some (λ e. e) (λ e. absurd (not_none (q.none e))), record { each = λ e. let f = q.each e in rw f.0 (⊎_elim no-vertex (λ g. ⊎_elim at_sixteen sole g) f.1); some = λ e. let f = q.either e in ⊎_elim (at_three f.1) (at_eleven f.1) f.0 })
      where
        low-at : base k + d ≡ 3 → (l : Linking (2 ∷ 4 ∷ []) 0 1 1 2) → LinksFirst n table hs s (get_or s l.place 0)
        low-at e l = first-links l (omega (arith, (row_three k d h e).place)) (floored k d l.place l.later l.inside (lt-ltb (base k + d) 14 (omega arith)))

        lowest : RowThree k d → Linking (2 ∷ 4 ∷ []) 0 1 1 2
        lowest r = leaf-links (2 ∷ 4 ∷ []) 0 1 1 2 (omega (arith, r.place)) r.low

        not_none : (base k + d ≡ 3) × ((y : ℕ) → LinksFirst n table hs s y → ⊥) → ⊥
        not_none n = let l = lowest (row_three k d h n.0) in n.1 (get_or s l.place 0) (low-at n.0 l)

        no-vertex : p ≡ 65535 → Closes n table hs (face_edge_at s (base k + d) 0 p p) (get_or s d 0) × Closes n table hs (face_edge_at s (base k + d) 3 p p) (get_or s d 0)
        no-vertex e = let f = ahead-at k d h z in (closes_any few 0 d h f.0 e, closes_any few 3 d h f.1 e)

        sole : (base k + d ≡ 3) × ((y : ℕ) → LinksFirst n table hs s y → y ≡ p) → Closes n table hs (face_edge_at s (base k + d) 0 p p) (get_or s d 0) × Closes n table hs (face_edge_at s (base k + d) 3 p p) (get_or s d 0)
        sole n =
            let r = row_three k d h n.0 in
            let l = lowest r in
            let e = n.1 (get_or s l.place 0) (low-at n.0 l) in
            let i : 3 < (template_of k).corners = omega (arith, r.place) in
            let one = leaf-links (3 ∷ 6 ∷ []) 0 2 1 3 i r.sides.one in
            let two = leaf-links (3 ∷ 5 ∷ []) 0 1 2 3 i r.sides.two in
            let v = ap (eqb (get_or s one.place 0)) (sym e) ∙ apart_low one l (omega arith) in
            let w = ap (eqb (get_or s two.place 0)) (sym e) ∙ apart_low two l (omega arith) in
            let f = rw n.0 at (closes_by d one p p (omega arith) i v v) in
            let g = rw n.0 at (closes_by d two p p (omega arith) i w w) in
            rw (n.0, r.place) (f, g)

        at_sixteen : base k + d ≡ 16 → Closes n table hs (face_edge_at s (base k + d) 0 p p) (get_or s d 0) × Closes n table hs (face_edge_at s (base k + d) 3 p p) (get_or s d 0)
        at_sixteen n =
            let r = row_sixteen k d h n in
            let f = rw n at (closes_twice d (omega (arith, r.0)) r.1 p) in
            rw (n, r.0) (f, f)

        Known : Type 0
        Known = (o ≡ p) ⊎ ((base k + d ≡ 3) × ((y : ℕ) → LinksFirst n table hs s y → (y ≡ o) ⊎ (y ≡ p)))

        Goal : Type 0
        Goal = ((get_or s d 0 ≡ o) ⊎ (get_or s d 0 ≡ p)) ⊎ (Closes n table hs (face_edge_at s (base k + d) 0 o p) (get_or s d 0) ⊎ Closes n table hs (face_edge_at s (base k + d) 3 o p) (get_or s d 0))

        at_three : Known → base k + d ≡ 3 → Goal
        at_three c n =
            let r = row_three k d h n in
            let i : 3 < (template_of k).corners = omega (arith, r.place) in
            let l = lowest r in
            let f = ⊎_elim (λ q. sided_one d i r.sides (λ e. omega arith) o p q) (λ m. sided_two d i r.sides (λ e. omega arith) o p l (m.1 (get_or s l.place 0) (low-at n l)) (omega arith) (omega arith)) c in
            rw (n, r.place) (rw n at f)

        at_eleven : Known → base k + d ≡ 11 → Goal
        at_eleven c n =
            let r = row_eleven k d h n in
            let i : 3 < (template_of k).corners = omega (arith, r.0) in
            let f = ⊎_elim (λ q. sided_one d i r.1 (λ e. omega arith) o p q) (λ m. absurd (omega (arith, m.0))) c in
            rw (n, r.0) (rw n at f)

-- Condition 5 implies 2 and 3: a triangle on the boundary is a facet of one of the cell's tetrahedra,
-- and every edge is a side of one, whichever diagonal a quadrilateral has. Assumes nothing.
use mathlib.Core.Path.{◌≡◌, refl, sym, ◌∙◌, ap, subst}
use mathlib.Core.Bool.{Bool, true, false, cond, ◌&&◌, ◌||◌}
use mathlib.Core.List.{List, [], ◌∷◌}
use Prim.Native.Nat.{ℕ, suc}
use native.Mathlib.Omega.{arith}
use borrow.Author.Tests.{eqb-true}
use lib.Dec.{eqb}
use lib.ListN.{get_or}
use Rattle.base.specs.Lists.{all, any, count, is_in}
use Rattle.base.proofs.Bools.{or-either, and_left, and_right}
use Rattle.base.proofs.Lists.{all-at, any_at}
use Rattle.base.proofs.Members.{all_map}
use Rattle.space.specs.Mesh.{Mesh, Tetrahedron, holds, together}
use Rattle.tets_around.proofs.Around.{count-keep}
use Rattle.templates.specs.Tables.{Template, at}
use Rattle.cells.specs.Cells.{one_diagonal, other_diagonal, inside, one, once, paired, covers, fills, splits, all_faces, is_tuple, has_edges, is_facet, is_split, has_faces, is_sound, belongs, tets_of, sides, is_filled_by, is_filled, is_one_part, is_cell}
use Rattle.filling.specs.declared.Tets.{Tets}
use Rattle.verdict.specs.between.Judged.{is_solid, Tells}
use Rattle.judging.specs.declared.Condition.{Condition}
use Rattle.judging.specs.declared.Condition.TheVariants.{Corners, Edges, Faces, Boxes, Filled, OnePart}
use Rattle.judging.specs.between.Last.{last_of, number, condition_no}
use Rattle.filling.specs.between.Numbered.{Numbered}
use Rattle.std.specs.Prelude.{Option, None, IfSome, Result, Ok, Err, is_ok}

or_left : (a b : Bool) → a ≡ true → (a || b) ≡ true
or_left a b e = rw e

or_right : (a b : Bool) → b ≡ true → (a || b) ≡ true
or_right true b e = refl
or_right false b e = e

both : {a b : Bool} → a ≡ true → b ≡ true → (a && b) ≡ true
both e f = rw (e, f)

-- ---- a test that implies another

module _ {A : Type 0} (p q : A → Bool) (f : (x : A) → p x ≡ true → q x ≡ true) where
  all_so : (xs : List A) → all p xs ≡ true → all q xs ≡ true
  all_so [] e = refl
  all_so (x ∷ xs) e = both (f x (and_left (p x) (all p xs) e)) (all_so xs (and_right (p x) (all p xs) e))

  any_so : (xs : List A) → any p xs ≡ true → any q xs ≡ true
  any_so [] e = e
  any_so (x ∷ xs) e = or-either (p x) (any p xs) e (λ h. or_left (q x) (any q xs) (f x h)) (λ h. or_right (q x) (any q xs) (any_so xs h))

  count_so : (xs : List A) (n : ℕ) → count p xs ≡ suc n → any q xs ≡ true
  count_so [] n e = absurd (omega (arith, e))
  count_so (x ∷ xs) n e = go (p x) refl e (count_so xs)
    where
      go : (b : Bool) → p x ≡ b → cond b (suc (count p xs)) (count p xs) ≡ suc n → ((n : ℕ) → count p xs ≡ suc n → any q xs ≡ true) → (q x || any q xs) ≡ true
      go true h e r = or_left (q x) (any q xs) (f x h)
      go false h e r = or_right (q x) (any q xs) (r n e)

-- ---- from condition 5 to 3

-- where a triple that is counted once is a facet, what fills has its faces
module _ (g : List ℕ → ℕ) (f : List ℕ → Bool) (so : (ks : List ℕ) → once g ks ≡ true → f ks ≡ true) where
  covers-splits : (q : List ℕ) → covers g q ≡ true → splits f q ≡ true
  covers-splits q e =
      let a = all (once g) (one_diagonal q) in
      let b = all (once g) (other_diagonal q) in
      or-either (a && all (paired g) (other_diagonal q)) (b && all (paired g) (one_diagonal q)) e
      (λ h. or_left (all f (one_diagonal q)) _ (all_so (once g) f so (one_diagonal q) (and_left a _ h)))
      (λ h. or_right (all f (one_diagonal q)) _ (all_so (once g) f so (other_diagonal q) (and_left b _ h)))

  fills-faces : (ts qs ws : List (List ℕ)) → fills g ts qs ws ≡ true → all_faces f ts qs ≡ true
  fills-faces ts qs ws e =
      let a = all (once g) ts in
      let b = all (covers g) qs in
      let h = and_left (a && b) (all (paired g) ws) e in
      both (all_so (once g) f so ts (and_left a b h)) (all_so (covers g) (splits f) covers-splits qs (and_right a b h))

module _ (m : Mesh) (t : Template) (c : List ℕ) where
  once-facet : (ks : List ℕ) → once (sides m t c) ks ≡ true → is_facet m t c ks ≡ true
  unfolding one sides tets_of is_facet together
  once-facet ks e =
      count_so (λ x. holds (at c ks) x && belongs m t c x) (holds (at c ks)) (λ x h. and_left (holds (at c ks) x) (belongs m t c x) h) m.tets 0
      (sym (count-keep (holds (at c ks)) (belongs m t c) m.tets) ∙ eqb-true _ 1 e)

  filled-faces : is_filled m t c ≡ true → has_faces m t c ≡ true
  unfolding is_filled is_filled_by has_faces
  filled-faces = fills-faces (sides m t c) (is_facet m t c) once-facet t.triangles t.quads (inside t)

-- ---- from condition 3 to 2

-- each of these corners is one of those
abbrev pub among : List ℕ → List ℕ → Bool
among ks f = all (λ k. is_in k f) ks

-- a side of a triangle of either diagonal
abbrev pub is_side : List ℕ → List ℕ → Bool
is_side e q = any (among e) (one_diagonal q) && any (among e) (other_diagonal q)

abbrev pub on_face : Template → List ℕ → Bool
on_face t e = any (among e) t.triangles || any (is_side e) t.quads

abbrev pub edged : Template → Bool
edged t = all (on_face t) t.edges

module _ (m : Mesh) (t : Template) (c : List ℕ) where
  among-holds : (x : Tetrahedron) (e f : List ℕ) → among e f ≡ true → holds (at c f) x ≡ true → holds (at c e) x ≡ true
  among-holds x e f s h =
      all_map (λ v. is_in v x.vertices) (λ k. get_or c k 0) e ∙
      all_so (λ k. is_in k f) (λ k. is_in (get_or c k 0) x.vertices) (λ k i.
      let y = any_at (eqb k) f i in
      ap (λ j. is_in (get_or c j 0) x.vertices) (eqb-true k y.0 y.2) ∙
      all-at (λ j. is_in (get_or c j 0) x.vertices) f (sym (all_map (λ v. is_in v x.vertices) (λ k. get_or c k 0) f) ∙ h) y.1
      ) e s

  among-joined : (e f : List ℕ) → among e f ≡ true → is_facet m t c f ≡ true → together m (at c e) ≡ true
  unfolding is_facet together
  among-joined e f s = any_so (holds (at c f)) (holds (at c e)) (λ x h. among-holds x e f s h) m.tets

  some-joined : (e : List ℕ) (fs : List (List ℕ)) → any (among e) fs ≡ true → all (is_facet m t c) fs ≡ true → together m (at c e) ≡ true
  some-joined e fs s h = let y = any_at (among e) fs s in among-joined e y.0 y.2 (all-at (is_facet m t c) fs h y.1)

  side-joined : (e q : List ℕ) → is_side e q ≡ true → is_split m t c q ≡ true → together m (at c e) ≡ true
  unfolding is_split
  side-joined e q s h =
      let a = any (among e) (one_diagonal q) in
      let b = any (among e) (other_diagonal q) in
      or-either (all (is_facet m t c) (one_diagonal q)) _ h (some-joined e (one_diagonal q) (and_left a b s)) (some-joined e (other_diagonal q) (and_right a b s))

  faces-edges : edged t ≡ true → has_faces m t c ≡ true → has_edges m t c ≡ true
  unfolding has_edges has_faces is_split
  faces-edges w f =
      let a = all (is_facet m t c) t.triangles in
      let b = all (is_split m t c) t.quads in
      all_so (on_face t) (λ e. together m (at c e)) (λ e h.
      or-either (any (among e) t.triangles) (any (is_side e) t.quads) h
      (λ g. some-joined e t.triangles g (and_left a b f))
      (λ g. let y = any_at (is_side e) t.quads g in side-joined e y.0 y.2 (all-at (is_split m t c) t.quads (and_right a b f) y.1))
      ) t.edges w

-- ---- a cell by 1, 4, 5 and 6

drop-two : (a b d s f o : Bool) → (f ≡ true → d ≡ true) → (d ≡ true → b ≡ true) → (a && s && (f && o)) ≡ (a && b && d && s && f && o)
drop-two true b d true true o p q = rw (q (p refl), p refl)
drop-two true b d false true o p q = rw (q (p refl), p refl)
drop-two true true true true false o p q = refl
drop-two true true true false false o p q = refl
drop-two true true false true false o p q = refl
drop-two true true false false false o p q = refl
drop-two true false d true false o p q = refl
drop-two true false d false false o p q = refl
drop-two false b d s f o p q = refl

solid_is : (m : Mesh) (t : Template) (c : List ℕ) → edged t ≡ true → is_solid m t c ≡ is_cell m t c
unfolding is_solid is_cell
solid_is m t c w =
    drop-two (is_tuple m t c) (has_edges m t c) (has_faces m t c) (is_sound m t c) (is_filled m t c) (is_one_part m t c) (filled-faces m t c) (faces-edges m t c w)

-- the same with the tetrahedra
pub tells-cell : {m : Mesh} {t : Template} {c : List ℕ} {v : Option Tets} → edged t ≡ true → Tells is_solid m t c v → Tells is_cell m t c v
tells-cell {m} {t} {c} w x = record { is = x.is ∙ solid_is m t c w; tets = x.tets }

-- nothing is told where the test fails
pub tells-no : {test : Mesh → Template → List ℕ → Bool} {m : Mesh} {t : Template} {c : List ℕ} → false ≡ test m t c → Tells test m t c None
tells-no e = record { is = e; tets = tt }

-- the tetrahedra that are told, by the same numbers
pub told_as : {xs ys : List ℕ} (v : Option Tets) → xs ≡ ys → IfSome v (λ f. Numbered xs f) → IfSome v (λ f. Numbered ys f)
told_as v e h = subst (λ l. IfSome v (λ f. Numbered l f)) e h

-- conditions 5 and 6 as one test
pub last-two : (f o : Bool) → eqb (last_of f o) 0 ≡ (f && o)
last-two true true = refl
last-two true false = refl
last-two false o = refl

-- no condition has the number 0
number_some : (k : Condition) → eqb (number k) 0 ≡ false
number_some Corners = refl
number_some Edges = refl
number_some Faces = refl
number_some Boxes = refl
number_some Filled = refl
number_some OnePart = refl

pub none-fails : {A : Type 0} (r : Result A Condition) → is_ok r ≡ eqb (condition_no r) 0
none-fails (Ok x) = refl
none-fails (Err k) = sym (number_some k)

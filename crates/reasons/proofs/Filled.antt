-- Condition 3 holds exactly where every face is there, 5 exactly where no face offends and no other triple does.
-- Assumes nothing.
use Prim.Native.Nat.{ℕ}
use mathlib.Core.Path.{◌≡◌, refl, sym, ◌∙◌, ap, ap₂}
use mathlib.Core.Bool.{Bool, true, false, not, cond, ◌&&◌, ◌||◌}
use mathlib.Core.List.{List, [], ◌∷◌, map}
use borrow.Author.Tests.{eqb-true}
use Rattle.base.specs.Lists.{all, spread}
use Rattle.base.proofs.Bools.{or-false}
use Rattle.base.proofs.Lists.{both_left}
use Rattle.base.proofs.Members.{all_map}
use Rattle.space.specs.Mesh.{Mesh}
use Rattle.templates.specs.Tables.{Template, at}
use Rattle.cells.specs.Cells.{one_diagonal, other_diagonal, inside, one, none_or_two, all_faces, once, paired, covers, fills, is_facet, has_faces, sides, is_filled_by, is_filled}
use Rattle.exactly_once.proofs.Once.{all_append}
use Rattle.reasons.specs.Reason.{Face, triangle, quad, faces_by, faces, is_there, halves, is_closed, across, others}

regroup : (a b c d : Bool) → (a && b && (c && d)) ≡ (a && c && (b && d))
regroup false b c d = refl
regroup true true c d = refl
regroup true false true d = refl
regroup true false false d = refl

swap : (a b c d : Bool) → (a && (b && c) && d) ≡ (a && b && (d && c))
swap false b c d = refl
swap true false c d = refl
swap true true true true = refl
swap true true true false = refl
swap true true false true = refl
swap true true false false = refl

-- a test of the faces is a test of the triangles and one of the quadrilaterals
all-faces : (p : Face → Bool) (ts qs : List (List ℕ)) → all p (faces_by ts qs) ≡ (all (λ ks. p (triangle ks)) ts && all (λ q. p (quad q)) qs)
all-faces p ts qs =
    all_append p (map triangle ts) (map quad qs) ∙ ap₂ (λ a b. a && b) (all_map p triangle ts) (all_map p quad qs)

faces_are : (f : List ℕ → Bool) (ts qs : List (List ℕ)) → all_faces f ts qs ≡ all (is_there f) (faces_by ts qs)
unfolding is_there
faces_are f ts qs = sym (all-faces (is_there f) ts qs)

-- what is once is neither none nor two
not_both : (k : ℕ) → one k ≡ true → none_or_two k ≡ false
unfolding one none_or_two
not_both k e = rw (eqb-true k 1 e)

module _ (g : List ℕ → ℕ) where
  -- triangles of which the first is once are not all paired
  once_unpaired : (x : List ℕ) (xs : List (List ℕ)) → all (once g) (x ∷ xs) ≡ true → all (paired g) (x ∷ xs) ≡ false
  once_unpaired x xs e = rw (not_both (g x) (both_left _ _ e))

  -- a quadrilateral is covered where it is halved and the triangles across are paired
  covers-halves : (q : List ℕ) → covers g q ≡ (halves g q && all (paired g) (across g q))
  unfolding across one_diagonal other_diagonal
  covers-halves q =
      go (all (once g) (one_diagonal q)) (all (once g) (other_diagonal q)) (one_diagonal q) (other_diagonal q)
      (once_unpaired (at q (0 ∷ 1 ∷ 2 ∷ [])) (at q (0 ∷ 2 ∷ 3 ∷ []) ∷ []))
      (once_unpaired (at q (0 ∷ 1 ∷ 3 ∷ [])) (at q (1 ∷ 2 ∷ 3 ∷ []) ∷ []))
    where
      go : (a b : Bool) (xs ys : List (List ℕ)) → (a ≡ true → all (paired g) xs ≡ false) → (b ≡ true → all (paired g) ys ≡ false) → (a && all (paired g) ys || (b && all (paired g) xs)) ≡ (cond a (not b) b && all (paired g) (cond a ys xs))
      go true true xs ys f g = rw (f refl, g refl)
      go true false xs ys f g = or-false _
      go false b xs ys f g = refl

  quads_are : (qs : List (List ℕ)) → all (covers g) qs ≡ (all (halves g) qs && all (paired g) (spread (across g) qs))
  unfolding spread
  quads_are [] = refl
  quads_are (q ∷ qs) =
      ap₂ (λ a b. a && b) (covers-halves q) (quads_are qs)
      ∙ regroup (halves g q) (all (paired g) (across g q)) (all (halves g) qs) (all (paired g) (spread (across g) qs))
      ∙ ap (λ b. halves g q && all (halves g) qs && b) (sym (all_append (paired g) (across g q) (spread (across g) qs)))

  fills-is : (ts qs ws : List (List ℕ)) → fills g ts qs ws ≡ (all (is_closed g) (faces_by ts qs) && all (paired g) (others g ws qs))
  unfolding is_closed
  fills-is ts qs ws =
      ap (λ b. all (once g) ts && b && all (paired g) ws) (quads_are qs)
      ∙ swap (all (once g) ts) (all (halves g) qs) (all (paired g) (spread (across g) qs)) (all (paired g) ws)
      ∙ sym (ap₂ (λ a b. a && b) (all-faces (is_closed g) ts qs) (all_append (paired g) ws (spread (across g) qs)))

module _ (m : Mesh) (t : Template) (c : List ℕ) where
  pub faces-there : has_faces m t c ≡ all (is_there (is_facet m t c)) (faces t)
  unfolding has_faces
  faces-there = faces_are (is_facet m t c) t.triangles t.quads

  pub filled_is : is_filled m t c ≡ (all (is_closed (sides m t c)) (faces t) && all (paired (sides m t c)) (others (sides m t c) (inside t) t.quads))
  unfolding is_filled is_filled_by
  filled_is = fills-is (sides m t c) t.triangles t.quads (inside t)

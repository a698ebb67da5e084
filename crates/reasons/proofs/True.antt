-- What is found is true, and every earlier condition holds.
-- Assumes nothing.
use Prim.Native.Nat.{ℕ, suc, ◌≤◌}
use mathlib.Core.Path.{◌≡◌, refl, sym, ◌∙◌, ap, subst}
use mathlib.Core.Logic.{⊎_elim}
use mathlib.Core.Bool.{Bool, true, false, not, cond}
use mathlib.Core.List.{List, [], ◌∷◌, map, Memᴰ}
use borrow.Author.Tests.{not-true}
use lib.Dec.{leb}
use lib.ListN.{length, get_or}
use lib.Seq.{length-take-le}
use Rattle.base.specs.Lists.{all, keep, up_to, spread}
use Rattle.base.proofs.Members.{keep_at, keep-has, map_at, map-has, spread_at}
use Rattle.space.specs.Box.{is_above0}
use Rattle.space.specs.Mesh.{Mesh, together}
use Rattle.portions.specs.Portions.{rises}
use Rattle.templates.specs.Tables.{Template, template_of, tuple_of, at}
use Rattle.least.specs.Least.{is_least}
use Rattle.cells.specs.Cells.{one_diagonal, other_diagonal, corner3, inside, once, paired, box_at, is_tuple, has_edges, is_facet, has_faces, is_sound, sides, is_filled, is_one_part, first_failing}
use Rattle.reasons.specs.declared.Finding.TheVariants.{OpenFace}
use Rattle.reasons.specs.First.{first_fail}
use Rattle.reasons.specs.Reason.{is_new, faces, is_there, is_closed, across, others, rising, offending, least_from, cell_by, turned_by, triple_by, least_turn, found_cell, found_open, finding_at, finding, finding_of}
use Rattle.reasons.specs.True.{LeastOf, Holds, Offends, True}
use Rattle.reasons.proofs.First.{first-fails}
use Rattle.reasons.proofs.Corner.{tuple-new}
use Rattle.reasons.proofs.Filled.{faces-there, filled_is}
use Rattle.reasons.proofs.Least.{lowest, length-rising, rising-rises, three}

-- ---- the other triples are of three corners

corner3_three : (k : ℕ) (ks : List ℕ) → Memᴰ ks (corner3 k) → length ks ≡ 3
unfolding corner3
corner3_three k ks h =
    let a = keep_at _ _ h in
    let b = spread_at (λ i. spread (λ j. map (λ l. i ∷ j ∷ l ∷ []) (up_to k)) (up_to k)) (up_to k) a.0 in
    let d = spread_at (λ j. map (λ l. b.0 ∷ j ∷ l ∷ []) (up_to k)) (up_to k) b.2 in
    let e = map_at (λ l. b.0 ∷ d.0 ∷ l ∷ []) (up_to k) d.2 in
    ap length e.2

inside_three : (t : Template) (ks : List ℕ) → Memᴰ ks (inside t) → length ks ≡ 3
unfolding inside
inside_three t ks h = corner3_three t.corners ks (keep_at _ _ h).0

-- the triangles of a diagonal
pair_three : (x y : List ℕ) → length x ≡ 3 → length y ≡ 3 → (ks : List ℕ) → Memᴰ ks (x ∷ y ∷ []) → length ks ≡ 3
pair_three x y a b ks (mathlib.Core.List.Memᴰ.head q) = ap length q ∙ a
pair_three x y a b ks (Memᴰ.tail (Memᴰ.tail x9)) = elim x9 [ ]
pair_three x y a b ks (mathlib.Core.List.Memᴰ.tail (mathlib.Core.List.Memᴰ.head q)) = ap length q ∙ b

diagonal_three : (b : Bool) (q ks : List ℕ) → Memᴰ ks (cond b (other_diagonal q) (one_diagonal q)) → length ks ≡ 3
unfolding one_diagonal other_diagonal
diagonal_three true q ks h = pair_three (at q (0 ∷ 1 ∷ 3 ∷ [])) (at q (1 ∷ 2 ∷ 3 ∷ [])) refl refl ks h
diagonal_three false q ks h = pair_three (at q (0 ∷ 1 ∷ 2 ∷ [])) (at q (0 ∷ 2 ∷ 3 ∷ [])) refl refl ks h

others_three : (g : List ℕ → ℕ) (t : Template) (ks : List ℕ) → Memᴰ ks (others g (inside t) t.quads) → length ks ≡ 3
unfolding across
others_three g t ks h =
    ⊎_elim
    (λ e. inside_three t ks e)
    (λ e. let w = spread_at (across g) t.quads e in diagonal_three (all (once g) (one_diagonal w.0)) w.0 ks w.2)
    (mathlib.Core.List.Memᴰ.append_cases (inside t) h)

length_at : (c ks : List ℕ) → length (at c ks) ≡ length ks
length_at c [] = refl
length_at c (k ∷ ks) = ap suc (length_at c ks)

module _ (m : Mesh) (t : Template) (c : List ℕ) where
  abbrev count3 : List ℕ → ℕ
  count3 = sides m t c

  abbrev triples : List (List ℕ)
  triples = others count3 (inside t) t.quads

  -- ---- those that offend

  offends-at : (vs : List ℕ) → Memᴰ vs (offending count3 c triples) → Offends m t c vs
  unfolding offending
  offends-at vs h =
      let a = map_at (λ ks. rising (at c ks)) (keep (λ ks. not (paired count3 ks)) triples) h in
      let b = keep_at (λ ks. not (paired count3 ks)) triples a.1 in
      record { triple = a.0; other = b.0; offends = not-true _ b.1; vertices = a.2; rise = ap (rises leb) a.2 ∙ rising-rises (at c a.0) }

  offends_in : (vs : List ℕ) → Offends m t c vs → Memᴰ vs (offending count3 c triples)
  unfolding offending
  offends_in vs o =
      subst (λ v. Memᴰ v (offending count3 c triples)) (sym o.vertices)
      (map-has (λ ks. rising (at c ks)) (keep (λ ks. not (paired count3 ks)) triples)
      (keep-has (λ ks. not (paired count3 ks)) triples o.other (ap not o.offends)))

  offending_three : (vs : List ℕ) → Memᴰ vs (offending count3 c triples) → length vs ≡ 3
  offending_three vs h =
      let o = offends-at vs h in
      ap length o.vertices ∙ length-rising (at c o.triple) ∙ length_at c o.triple ∙ others_three count3 t o.triple o.other

  least-offends : all (paired count3) triples ≡ false → let v = least_from [] (offending count3 c triples) in LeastOf (get_or v 0 0 ∷ get_or v 1 0 ∷ get_or v 2 0 ∷ []) (Offends m t c)
  least-offends e =
      let v = least_from [] (offending count3 c triples) in
      let w = first-fails (paired count3) triples e in
      let h : Memᴰ w.row triples = subst (λ l. Memᴰ w.row l) (sym w.table) (mathlib.Core.List.Memᴰ.append_right w.before (mathlib.Core.List.Memᴰ.head refl)) in
      let g = offends_in (rising (at c w.row)) (record { triple = w.row; other = h; offends = w.fails; vertices = refl; rise = rising-rises (at c w.row) }) in
      let l = lowest 2 (offending count3 c triples) g offending_three in
      subst (λ x. LeastOf x (Offends m t c)) (sym (three v (offending_three v l.is)))
      (record { is = offends-at v l.is; least = λ y o. l.least y (offends_in y o) })

  -- ---- the findings

  cell-true : (b : Bool) → is_least t c ≡ b → Holds m t c 6 → True m t c (cond b (cell_by (least_turn t c)) (turned_by (least_turn t c)))
  cell-true true e h = (h, e, refl)
  cell-true false e h = (h, e, refl)

  open-true : (b : Bool) → all (is_closed count3) (faces t) ≡ b → Holds m t c 4 → is_filled m t c ≡ false → True m t c (cond b (triple_by (least_from [] (offending count3 c triples))) (OpenFace (first_fail (is_closed count3) (faces t))))
  open-true true e h f = (h, f, e, least-offends (sym (rw e at (filled_is m t c)) ∙ f))
  open-true false e h f = (h, f, first-fails (is_closed count3) (faces t) e)

  edges-all : all (λ ks. together m (at c ks)) t.edges ≡ has_edges m t c
  unfolding has_edges
  edges-all = refl

  sound-all : all (λ ks. is_above0 (box_at m (at c ks))) t.triples ≡ is_sound m t c
  unfolding is_sound
  sound-all = refl

  found-true : length c ≡ t.corners → (b d e f g h : Bool) → is_tuple m t c ≡ b → has_edges m t c ≡ d → has_faces m t c ≡ e → is_sound m t c ≡ f → is_filled m t c ≡ g → is_one_part m t c ≡ h → True m t c (finding_at m t c (cond b (cond d (cond e (cond f (cond g (cond h 0 6) 5) 4) 3) 2) 1))
  unfolding finding_at found_cell found_open
  found-true l false d e f g h p1 p2 p3 p4 p5 p6 = (p1, first-fails (is_new (length m.points) c) (up_to t.corners) (sym (tuple-new m t c l) ∙ p1))
  found-true l true false e f g h p1 p2 p3 p4 p5 p6 = (rw p1, p2, first-fails (λ ks. together m (at c ks)) t.edges (edges-all ∙ p2))
  found-true l true true false f g h p1 p2 p3 p4 p5 p6 = (rw (p1, p2), p3, first-fails (is_there (is_facet m t c)) (faces t) (sym (faces-there m t c) ∙ p3))
  found-true l true true true false g h p1 p2 p3 p4 p5 p6 = (rw (p1, p2, p3), p4, first-fails (λ ks. is_above0 (box_at m (at c ks))) t.triples (sound-all ∙ p4))
  found-true l true true true true false h p1 p2 p3 p4 p5 p6 = open-true (all (is_closed count3) (faces t)) refl (rw (p1, p2, p3, p4)) p5
  found-true l true true true true true false p1 p2 p3 p4 p5 p6 = (rw (p1, p2, p3, p4, p5), p6)
  found-true l true true true true true true p1 p2 p3 p4 p5 p6 = cell-true (is_least t c) refl (rw (p1, p2, p3, p4, p5, p6))

  finding-true : length c ≡ t.corners → True m t c (finding m t c)
  unfolding finding first_failing
  finding-true l = found-true l (is_tuple m t c) (has_edges m t c) (has_faces m t c) (is_sound m t c) (is_filled m t c) (is_one_part m t c) refl refl refl refl refl refl

-- of a kind and eight numbers
pub found_is_true : (m : Mesh) (k : ℕ) (vs : List ℕ) → (template_of k).corners ≤ length vs → True m (template_of k) (tuple_of k vs) (finding_of m k vs)
unfolding finding_of
found_is_true m k vs l = finding-true m (template_of k) (tuple_of k vs) (length-take-le _ vs l)

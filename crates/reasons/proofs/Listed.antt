-- A cell is found exactly where the tuple's least form stands in the full list.
-- Assumes nothing.
use Prim.Native.Nat.{ℕ, ◌≤◌}
use mathlib.Core.Path.{◌≡◌, refl, sym, ◌∙◌, ap, subst}
use mathlib.Core.Logic.{◌⊎◌, inl, inr, ⊎_elim}
use mathlib.Core.Bool.{Bool, true, false, cond, ◌&&◌}
use mathlib.Core.List.{List, [], ◌∷◌, map, Memᴰ}
use native.Mathlib.Omega.{arith}
use borrow.Author.Tests.{eqb-true, ltb-true}
use lib.Dec.{eqb, ltb}
use lib.ListN.{length}
use lib.Seq.{length-take-le}
use Rattle.base.specs.Lists.{all, keep, distinct, last_or}
use Rattle.base.proofs.Lists.{both_left, both_right, all-at}
use Rattle.base.proofs.Members.{keep_at, keep-has, map_at, map-has}
use Rattle.space.specs.Mesh.{Mesh}
use Rattle.templates.specs.Tables.{Template, hexahedron, prism, pyramid, templates, template_of, tuple_of, at}
use Rattle.least.specs.Least.{rises_at, is_least}
use Rattle.least.proofs.OneLeast.{one-least}
use Rattle.turning.specs.Form.{least_by}
use Rattle.turning.proofs.Asked.{template-of}
use Rattle.cells.specs.Cells.{inside, is_tuple, has_edges, has_faces, is_sound, sides, is_filled, is_one_part, is_cell, numbers_of, first_failing}
use Rattle.cells.specs.Full.{Cell, cell, cell_in, full_list}
use Rattle.exactly_once.specs.Once.{is_turn}
use Rattle.exactly_once.proofs.Turned.{same}
use Rattle.exactly_once.proofs.Once.{once}
use Rattle.reasons.specs.declared.Finding.TheVariants.{OpenFace}
use Rattle.reasons.specs.First.{first_fail}
use Rattle.reasons.specs.Reason.{faces, is_closed, others, offending, least_from, cell_by, turned_by, triple_by, least_turn, found_cell, found_open, finding_at, finding, finding_of}
use Rattle.reasons.specs.True.{isACell, InTheList}

-- ---- a kind has one template

one-kind : {s t : Template} → Memᴰ s templates → Memᴰ t templates → s.kind ≡ t.kind → s ≡ t
one-kind g h e = sym (template-of g).1 ∙ ap template_of e ∙ (template-of h).1

pub is_template : (k : ℕ) → Memᴰ (template_of k) templates
is_template k = go (eqb k 8) (eqb k 6)
  where
    go : (a b : Bool) → Memᴰ (cond a hexahedron (cond b prism pyramid)) templates
    go true b = mathlib.Core.List.Memᴰ.head refl
    go false true = mathlib.Core.List.Memᴰ.tail (mathlib.Core.List.Memᴰ.head refl)
    go false false = mathlib.Core.List.Memᴰ.tail (mathlib.Core.List.Memᴰ.tail (mathlib.Core.List.Memᴰ.head refl))

-- ---- the tuple of a cell

last_in : {A : Type 0} (d : A) (xs : List A) → (last_or d xs ≡ d) ⊎ Memᴰ (last_or d xs) xs
last_in d [] = inl refl
last_in d (x ∷ xs) = ⊎_elim (λ e. inr (mathlib.Core.List.Memᴰ.head e)) (λ h. inr (mathlib.Core.List.Memᴰ.tail h)) (last_in x xs)

module _ (m : Mesh) {t : Template} (h : Memᴰ t templates) where
  cell-tuple : (c : List ℕ) → is_cell m t c ≡ true → is_tuple m t c ≡ true
  unfolding is_cell
  cell-tuple c e = both_left _ _ (both_left _ _ (both_left _ _ (both_left _ _ (both_left _ _ e))))

  cell-length : (c : List ℕ) → is_cell m t c ≡ true → length c ≡ t.corners
  unfolding is_tuple
  cell-length c e = eqb-true _ _ (both_left _ _ (both_left _ _ (cell-tuple c e)))

  cell-distinct : (c : List ℕ) → is_cell m t c ≡ true → distinct c ≡ true
  unfolding is_tuple
  cell-distinct c e = both_right (eqb (length c) t.corners && all (λ v. ltb v (length m.points)) c) _ (cell-tuple c e)

  -- no template is without corners
  no-corners : is_cell m t [] ≡ true → ⊥
  no-corners e =
      let z = ltb-true 0 t.corners (all-at (λ (s : Template). ltb 0 s.corners) templates refl h) in
      let l = cell-length [] e in
      omega arith

  -- ---- the full list

  cell-listed : (c : List ℕ) → is_cell m t c ≡ true → Memᴰ (cell t.kind (least_turn t c) (numbers_of m t c)) (full_list m)
  unfolding is_least least_turn least_by
  cell-listed c e =
      let w = (once m).listed h c e in
      let d : Cell = cell t.kind (at c w.0) (numbers_of m t c) in
      let f : cell_in m t (at c w.0) ≡ d = ap (cell t.kind (at c w.0)) w.3 in
      let g : Memᴰ d (full_list m) = subst (λ x. Memᴰ x (full_list m)) f (keep_at (is_turn t c) (full_list m) (subst (λ l. Memᴰ (cell_in m t (at c w.0)) l) (sym w.2) (mathlib.Core.List.Memᴰ.head refl))).0 in
      let n = (once m).entry g in
      let k : n.0 ≡ t = one-kind n.1 h (sym (ap (λ (x : Cell). x.kind) n.4)) in
      let least : is_least t (at c w.0) ≡ true = subst (λ s. is_least s (at c w.0) ≡ true) k n.3 in
      let o = one-least h c (cell-length c e) (cell-distinct c e) in
      let q : at c w.0 ≡ at c o.0 = mathlib.Core.List.Memᴰ.eq_of_singleton (subst (λ l. Memᴰ (at c w.0) l) o.3 (keep-has (is_least t) (map (at c) t.turns) (map-has (at c) t.turns w.1) least)) in
      let p : least_turn t c ≡ at c w.0 = ap (last_or []) o.3 ∙ sym q in
      subst (λ x. Memᴰ (cell t.kind x (numbers_of m t c)) (full_list m)) (sym p) g

  listed-cell : (c : List ℕ) → length c ≡ t.corners → (ts : List ℕ) → Memᴰ (cell t.kind (least_turn t c) ts) (full_list m) → is_cell m t c ≡ true
  unfolding least_turn least_by
  listed-cell c l ts g =
      let n = (once m).entry g in
      let k : n.0 ≡ t = one-kind n.1 h (sym (ap (λ (x : Cell). x.kind) n.4)) in
      let e : is_cell m t (least_turn t c) ≡ true = subst (λ s. is_cell m s (least_turn t c) ≡ true) k n.2 in
      ⊎_elim
      (λ q. absurd (no-corners (subst (λ x. is_cell m t x ≡ true) q e)))
      (λ j.
      let a = keep_at (rises_at t.less) (map (at c) t.turns) j in
      let b = map_at (at c) t.turns a.0 in
      sym (same m h b.1 c l).cell ∙ subst (λ x. is_cell m t x ≡ true) b.2 e)
      (last_in [] (keep (rises_at t.less) (map (at c) t.turns)))

-- ---- the finding

module _ (m : Mesh) (t : Template) (c : List ℕ) where
  as_cell : (b : Bool) (xs : List ℕ) → isACell (cond b (cell_by xs) (turned_by xs)) ≡ true
  as_cell true xs = refl
  as_cell false xs = refl

  as_open : (b : Bool) (xs : List ℕ) (i : ℕ) → isACell (cond b (triple_by xs) (OpenFace i)) ≡ false
  as_open true xs i = refl
  as_open false xs i = refl

  tells : (b d e f g h : Bool) → isACell (finding_at m t c (cond b (cond d (cond e (cond f (cond g (cond h 0 6) 5) 4) 3) 2) 1)) ≡ (b && d && e && f && g && h)
  unfolding finding_at found_cell found_open
  tells false d e f g h = refl
  tells true false e f g h = refl
  tells true true false f g h = refl
  tells true true true false g h = refl
  tells true true true true false h =
      let g = sides m t c in
      as_open (all (is_closed g) (faces t)) (least_from [] (offending g c (others g (inside t) t.quads))) (first_fail (is_closed g) (faces t))
  tells true true true true true false = refl
  tells true true true true true true = as_cell (is_least t c) (least_turn t c)

  tells-cell : isACell (finding m t c) ≡ is_cell m t c
  unfolding finding first_failing is_cell
  tells-cell = tells (is_tuple m t c) (has_edges m t c) (has_faces m t c) (is_sound m t c) (is_filled m t c) (is_one_part m t c)

finding-listed : (m : Mesh) {t : Template} → Memᴰ t templates → (c : List ℕ) → length c ≡ t.corners → InTheList m t c (finding m t c)
finding-listed m {t} h c l = record {
  there = λ e. cell-listed m h c (sym (tells-cell m t c) ∙ e);
  back = λ ts g. tells-cell m t c ∙ listed-cell m h c l ts g;
}

-- of a kind and eight numbers
pub found_is_listed : (m : Mesh) (k : ℕ) (vs : List ℕ) → (template_of k).corners ≤ length vs → InTheList m (template_of k) (tuple_of k vs) (finding_of m k vs)
unfolding finding_of
found_is_listed m k vs l = finding-listed m (is_template k) (tuple_of k vs) (length-take-le _ vs l)

-- The search of one kind, and of the three in turn.
-- Assumes nothing.
use Prim.Native.Nat.{ℕ, zero, suc, ◌+◌, ◌<◌, ◌≤◌}
use mathlib.Core.Path.{◌≡◌, refl, sym, ◌∙◌, ap, subst}
use mathlib.Core.Bool.{Bool, true, false, cond, true≢false}
use mathlib.Core.List.{List, [], ◌∷◌}
use lib.ListN.{take, get_or}
use lib.Seq.{get_or-take}
use native.Mathlib.Omega.{arith}
use native.Mathlib.Decide.{dec_lt}
use Rattle.space.specs.Mesh.{Mesh}
use Rattle.templates.specs.Tables.{Template, hexahedron, prism, pyramid, template_of, at}
use Rattle.templates.specs.Kinds.{template}
use Rattle.templates.specs.declared.kind.Kind.{Kind}
use Rattle.templates.specs.declared.kind.Kind.TheVariants.{Pyramid, Prism, Hexahedron}
use Rattle.cells.specs.Full.{full_list}
use Rattle.record.specs.declared.Mark.{Mark}
use Rattle.record.specs.Marks.{mark_corners}
use Rattle.filling.specs.declared.Tets.{Tets}
use Rattle.portions.specs.between.Tuples.{Agree, LeastAfter}
use Rattle.portions.specs.between.Steps.{Next}
use Rattle.rule.specs.Rule.{tet_rule}
use Rattle.rule.specs.between.Leaf.{is_leaf, cell_at, Searched, past, within, whole}
use Rattle.rule.proofs.Next.{found_8, found_6, found_5}
use Rattle.following.specs.between.Following.{Begun, Stepped, NoneOf, Steps, kinds, NoneIn, Came, Comes}
use Rattle.following.specs.declared.NextCell.{NextCell}
use Rattle.std.specs.Prelude.{Option, Some, None, is_some}

-- below kind 8 the search order is the letters' own
pub own-order : (m : Mark) (b : Bool) → take (cond b prism pyramid).corners (mark_corners m) ≡ at (mark_corners m) (cond b prism pyramid).order
own-order m true = refl
own-order m false = refl

pub agree-take : (k : ℕ) (s t : List ℕ) → take k s ≡ t → Agree k s t
agree-take k s t e j h = sym (get_or-take k s j 0 h) ∙ ap (λ l. get_or l j 0) e

-- ── one kind ──

-- the number of a kind names its template
pub of-number : (k : Kind) {n : ℕ} → n ≡ (template k).kind → template_of n ≡ template k
of-number Hexahedron e = ap template_of e
of-number Prism e = ap template_of e
of-number Pyramid e = ap template_of e

module _ {m : Mesh} {t : Template} {a : ℕ} {vs : List ℕ} where
  -- no cell of a kind above the mark's
  pub none_past : a < t.kind → NoneOf m t (a ∷ vs)
  none_past h = ([], past h)

  -- from where the search begins
  pub searched-from : {v r : List ℕ} {found : Bool} → (a < t.kind → ⊥) → Begun t a vs v → LeastAfter t.corners (is_leaf m t) v found r → Searched m t a vs found r
  searched-from {v} {r} {found} n b x = elim (dec_lt t.kind a) [
    | yes g ↦ whole g (subst (λ l. LeastAfter t.corners (is_leaf m t) l found r) (b.below g) x)
    | no g ↦ let q : a ≡ t.kind = elim (dec_lt a t.kind) [ yes h ↦ absurd (n h) | no h ↦ omega arith ] in within v q (b.own q) x
  ]

-- the same of a kind, where the search was asked by its number
pub searched-of : {m : Mesh} {a n : ℕ} {vs v r : List ℕ} {found : Bool} (k : Kind) → n ≡ (template k).kind → (a < n → ⊥) → Begun (template k) a vs v → LeastAfter (template_of n).corners (is_leaf m (template_of n)) v found r → Searched m (template k) a vs found r
searched-of {m} {a} {n} {vs} {v} {r} {found} k e h b x =
    searched-from (λ g. h (omega (arith, g, e))) b (subst (λ t. LeastAfter t.corners (is_leaf m t) v found r) (of-number k e) x)

-- ── the three kinds in turn ──

module _ (m : Mesh) {a : ℕ} {vs : List ℕ} where
  pub none-start : NoneIn m (a ∷ vs) 0
  none-start j h = absurd (let z : ⊥ = omega arith in z)

  -- one kind more has none
  pub none_more : {i : ℕ} {u : Kind} → NoneIn m (a ∷ vs) i → u ≡ get_or kinds i Pyramid → NoneOf m (template u) (a ∷ vs) → NoneIn m (a ∷ vs) (i + 1)
  none_more {i} {u} x q s j h = elim (dec_lt j i) [
    | yes g ↦ x j g
    | no g ↦ let p : j ≡ i = omega arith in subst (λ k. NoneOf m (template k) (a ∷ vs)) (q ∙ ap (λ l. get_or kinds l Pyramid) (sym p)) s
  ]

  came_as : {j : List ℕ} {f : Tets} (t : Template) (x : Stepped m t (a ∷ vs) j f) → Next tet_rule (full_list m) (a ∷ vs) true (cell_at m t x.tuple) → Came m (a ∷ vs) j f
  came_as t x n = record { cell = cell_at m t x.tuple; next = n; marked = x.marked; tets = x.tets }

  module _ {j : List ℕ} {f : Tets} where
    -- kind i has the first cell, where those before it have none
    first-at : (i : ℕ) → i < 3 → NoneIn m (a ∷ vs) i → Stepped m (template (get_or kinds i Pyramid)) (a ∷ vs) j f → Came m (a ∷ vs) j f
    first-at zero h n x = came_as hexahedron x (found_8 m x.searched)
    first-at (suc zero) h n x = came_as prism x (found_6 m (n 0 (omega arith)).1 x.searched)
    first-at (suc (suc zero)) h n x = came_as pyramid x (found_5 m (n 0 (omega arith)).1 (n 1 (omega arith)).1 x.searched)
    first-at (suc (suc (suc i))) h n x = absurd (let z : ⊥ = omega arith in z)

    pub came_at : {i : ℕ} {u : Kind} → i < 3 → NoneIn m (a ∷ vs) i → u ≡ get_or kinds i Pyramid → Stepped m (template u) (a ∷ vs) j f → Came m (a ∷ vs) j f
    came_at {i} h n q x = first-at i h n (subst (λ k. Stepped m (template k) (a ∷ vs) j f) q x)

  -- none of the three has one
  pub came_none : {i : ℕ} → 3 ≤ i → NoneIn m (a ∷ vs) i → Comes m (a ∷ vs) None
  came_none h n = let last = n 2 (omega arith) in (cell_at m pyramid last.0, found_5 m (n 0 (omega arith)).1 (n 1 (omega arith)).1 last.1)

  -- what a kind has is the first, where those before it have none
  pub comes_at : {i : ℕ} {u : Kind} (v : Option NextCell) → is_some v ≡ true → i < 3 → NoneIn m (a ∷ vs) i → u ≡ get_or kinds i Pyramid → Steps m (template u) (a ∷ vs) v → Comes m (a ∷ vs) v
  comes_at None e h n q x = absurd (true≢false (sym e))
  comes_at (Some s) e h n q x = came_at h n q x

  pub none_here : (u : Kind) (v : Option NextCell) → is_some v ≡ false → Steps m (template u) (a ∷ vs) v → NoneOf m (template u) (a ∷ vs)
  none_here u None e x = x
  none_here u (Some s) e x = absurd (true≢false e)

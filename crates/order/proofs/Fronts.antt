-- A tuple in the other order: filled up with 0 it is the tuple turned by its kind's row; its first are the tuple.
-- Assumes nothing.
use Prim.Native.Nat.{ℕ}
use mathlib.Core.Path.{◌≡◌, refl, sym, ◌∙◌, ap}
use mathlib.Core.Bool.{Bool, true, false, cond}
use mathlib.Core.List.{List, map}
use lib.Dec.{eqb}
use lib.ListN.{length, get_or, take}
use Rattle.base.specs.Lists.{up_to, pad}
use Rattle.base.proofs.Loop.{listed}
use Rattle.templates.specs.Tables.{Template, hexahedron, prism, pyramid, template_of, at}
use Rattle.templates.specs.Kinds.{template, kind_of}
use Rattle.templates.specs.declared.kind.Kind.{Kind}
use Rattle.templates.specs.between.Eight.{eight}
use Rattle.templates.proofs.Numbered.{template-of}

pub eight-all : (xs : List ℕ) → length xs ≡ 8 → eight xs ≡ xs
eight-all xs e = ap (λ k. map (λ j. get_or xs j 0) (up_to k)) (sym e) ∙ listed 0 xs

-- what holds of the hexahedron where a number is 8, and of the others where it is not, holds of the number's template
by_kind : (P : Bool → Template → Type 0) → P true hexahedron → P false prism → P false pyramid → (k : ℕ) → P (eqb k 8) (template_of k)
by_kind P x y z k = go (eqb k 8) (eqb k 6)
  where
    go : (a b : Bool) → P a (cond a hexahedron (cond b prism pyramid))
    go true b = x
    go false true = y
    go false false = z

-- a tuple in the other order, filled up with 0
pub letters-eight : {x : Kind} {r : List ℕ} (k : ℕ) (s : List ℕ) → x ≡ kind_of k → r ≡ (template x).places → eight (at s r) ≡ pad 8 0 (at s (template_of k).places)
letters-eight k s e f = ap (λ r. eight (at s r)) (f ∙ ap (λ x. (template x).places) e ∙ ap (λ t. t.places) (template-of k)) ∙ by_kind (λ a t. eight (at s t.places) ≡ pad 8 0 (at s t.places)) refl refl refl k

pub ordered-eight : {x : Kind} {r : List ℕ} (k : ℕ) (c : List ℕ) → x ≡ kind_of k → r ≡ (template x).order → eight (at c r) ≡ pad 8 0 (at c (template_of k).order)
ordered-eight k c e f = ap (λ r. eight (at c r)) (f ∙ ap (λ x. (template x).order) e ∙ ap (λ t. t.order) (template-of k)) ∙ by_kind (λ a t. eight (at c t.order) ≡ pad 8 0 (at c t.order)) refl refl refl k

pub letters-front : (k : ℕ) (s : List ℕ) → take (template_of k).corners (pad 8 0 (at s (template_of k).places)) ≡ at s (template_of k).places
letters-front k s = by_kind (λ a t. take t.corners (pad 8 0 (at s t.places)) ≡ at s t.places) refl refl refl k

pub ordered-front : (k : ℕ) (c : List ℕ) → take (template_of k).corners (pad 8 0 (at c (template_of k).order)) ≡ at c (template_of k).order
ordered-front k c = by_kind (λ a t. take t.corners (pad 8 0 (at c t.order)) ≡ at c t.order) refl refl refl k

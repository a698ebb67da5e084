-- The kind that a number counts as has the number's template. Assumes nothing.
use Prim.Native.Nat.{ℕ}
use mathlib.Core.Path.{◌≡◌, refl, sym, ◌∙◌, ap}
use mathlib.Core.Bool.{Bool, true, false, cond}
use lib.Dec.{eqb}
use Rattle.std.specs.Prelude.{Some, None}
use Rattle.templates.specs.declared.kind.Kind.{Kind}
use Rattle.templates.specs.declared.kind.Kind.TheVariants.{Pyramid, Prism, Hexahedron}
use Rattle.templates.specs.Tables.{hexahedron, prism, pyramid, is_kind, template_of}
use Rattle.templates.specs.Kinds.{template, kind_of, kind_named}

pub template-of : (n : ℕ) → template (kind_of n) ≡ template_of n
template-of n = go (eqb n 8) (eqb n 6)
  where
    go : (a b : Bool) → template (cond a Hexahedron (cond b Prism Pyramid)) ≡ cond a hexahedron (cond b prism pyramid)
    go true b = refl
    go false true = refl
    go false false = refl

-- a number that names a kind, and one that does not
module _ (n : ℕ) where
  pub some-named : {k : Kind} → kind_named n ≡ Some k → (is_kind n ≡ true) × (template k ≡ template_of n)
  some-named {k} e = let h = go (is_kind n) e in (h.0, ap template (sym h.1) ∙ template-of n)
    where
      go : (b : Bool) → cond b (Some (kind_of n)) None ≡ Some k → (b ≡ true) × (kind_of n ≡ k)
      go true e = (refl, cc)
      go false e = cc

  pub none-named : kind_named n ≡ None → is_kind n ≡ false
  none-named = go (is_kind n)
    where
      go : (b : Bool) → cond b (Some (kind_of n)) None ≡ None → b ≡ false
      go true e = cc
      go false e = refl

-- which numbers count as each kind
module _ (n : ℕ) where
  pub counts-hexahedron : Hexahedron ≡ kind_of n → eqb n 8 ≡ true
  counts-hexahedron = go (eqb n 8) (eqb n 6)
    where
      go : (a b : Bool) → Hexahedron ≡ cond a Hexahedron (cond b Prism Pyramid) → a ≡ true
      go true b e = refl
      go false true e = cc
      go false false e = cc

  pub counts-prism : Prism ≡ kind_of n → (eqb n 8 ≡ false) × (eqb n 6 ≡ true)
  counts-prism = go (eqb n 8) (eqb n 6)
    where
      go : (a b : Bool) → Prism ≡ cond a Hexahedron (cond b Prism Pyramid) → (a ≡ false) × (b ≡ true)
      go true b e = cc
      go false true e = (refl, refl)
      go false false e = cc

  pub counts-pyramid : Pyramid ≡ kind_of n → (eqb n 8 ≡ false) × (eqb n 6 ≡ false)
  counts-pyramid = go (eqb n 8) (eqb n 6)
    where
      go : (a b : Bool) → Pyramid ≡ cond a Hexahedron (cond b Prism Pyramid) → (a ≡ false) × (b ≡ false)
      go true b e = cc
      go false true e = cc
      go false false e = (refl, refl)

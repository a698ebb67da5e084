-- A search of each kind, by the least tuple after a tuple, finds the next cell of the full list.
-- Assumes nothing.
use Prim.Native.Nat.{ℕ, ◌-◌, ◌<◌}
use mathlib.Core.Path.{◌≡◌, refl, sym, ◌∙◌, ap, ap₂, subst}
use mathlib.Core.Logic.{⊎_elim}
use mathlib.Core.Bool.{Bool, true, false}
use mathlib.Core.List.Memᴰ
use mathlib.Core.List.{List, ◌∷◌, ◌++◌, Memᴰ}
use lib.ListN.{get_or, replicate}
use native.Mathlib.Omega.{arith}
use Rattle.base.specs.Lists.{pad}
use Rattle.space.specs.Mesh.{Mesh}
use Rattle.templates.specs.Tables.{Template, hexahedron, prism, pyramid, template_of, at}
use Rattle.cells.specs.Full.{Cell, cells_of, full_list}
use Rattle.portions.specs.Portions.{before, is_after, remains}
use Rattle.portions.specs.between.Tuples.{Agree, front}
use Rattle.portions.specs.between.Steps.{Next, Alike}
use Rattle.portions.proofs.Order.{before-less, before_same, before_cases}
use Rattle.portions.proofs.Tuples.{lt_of, of_lt, agree_at}
use Rattle.portions.proofs.Loop.{later-remains}
use Rattle.portions.proofs.Least.{next-kind, next_past, next-left, next_right}
use Rattle.rule.specs.Rule.{key, tet_rule}
use Rattle.rule.specs.between.Leaf.{is_leaf, cell_at, Searched, past, within, whole}
use Rattle.rule.proofs.OneKind.{Flat, flat-hexahedron, flat-prism, flat-pyramid, kind, kind_at, leaf-key, zeros-before}
use Rattle.rule.proofs.Full.{full_is, fall, hexahedra_first, lawful}

-- ── one kind ──

module _ (m : Mesh) (t : Template) (flat : Flat t) where
  -- the kind's own mark: the cells after it are those of the tuples after its numbers in search order
  alike_own : {a : ℕ} {vs v : List ℕ} → a ≡ t.kind → Agree t.corners v (at vs t.order) → Alike tet_rule t.corners (is_leaf m t) (cell_at m t) (a ∷ vs) v
  unfolding is_after
  alike_own {a} {vs} {v} q g = record {
    later = λ s e l. is s e ∙ of_lt v s t.corners l;
    only = λ s e l. lt_of v s t.corners (sym (is s e) ∙ l);
  }
    where
      is : (s : List ℕ) → is_leaf m t s ≡ true → is_after tet_rule (a ∷ vs) (cell_at m t s) ≡ before (front t.corners v) (front t.corners s)
      is s e =
          ap₂ before (ap (λ i. key (i ∷ vs)) q ∙ flat.ordered vs) (leaf-key m t flat s e)
          ∙ before_same (65535 - t.kind) (at vs t.order) (front t.corners s)
          ∙ ap (λ l. before l (front t.corners s)) (sym (agree_at v (at vs t.order) t.corners g ∙ flat.closed vs))

  -- the mark of a greater kind: all cells of this kind come after it
  alike_all : {a : ℕ} {vs : List ℕ} → t.kind < a → Alike tet_rule t.corners (is_leaf m t) (cell_at m t) (a ∷ vs) (replicate 8 0)
  unfolding is_after key
  alike_all {a} {vs} l = record {
    later = λ s e h. ap (before (key (a ∷ vs))) (leaf-key m t flat s e) ∙ before-less (65535 - a) (65535 - t.kind) (at vs (template_of a).order) (front t.corners s) (omega (arith, flat.high));
    only = λ s e h. zeros-before m t flat s e;
  }

  -- a tuple that passes makes a cell after every mark of a greater kind,
  -- and after those of its own with a lesser first number
  pub later-all : {a : ℕ} (vs s : List ℕ) → t.kind < a → is_leaf m t s ≡ true → is_after tet_rule (a ∷ vs) (cell_at m t s) ≡ true
  later-all vs s l e = (alike_all {vs = vs} l).later s e (zeros-before m t flat s e)

  pub later-own : {a : ℕ} (vs s : List ℕ) → a ≡ t.kind → get_or (at vs t.order) 0 0 < get_or s 0 0 → is_leaf m t s ≡ true → is_after tet_rule (a ∷ vs) (cell_at m t s) ≡ true
  later-own vs s q l e = (alike_own {vs = vs} {v = at vs t.order} q (λ j h. refl)).later s e (record { place = 0; within = omega (arith, flat.several); same = λ j h. absurd (let z : ⊥ = omega arith in z); less = l })

  pub searched : {a : ℕ} {vs : List ℕ} {found : Bool} {r : List ℕ} → Searched m t a vs found r → Next tet_rule (cells_of m t) (a ∷ vs) found (cell_at m t r)
  unfolding is_after key
  searched {a} {vs} {r = r} (past l) =
      next_past tet_rule (cells_of m t) (cell_at m t r)
      (λ d h e.
      let q : d.kind ≡ t.kind = kind_at m t flat h in
      ⊎_elim (λ z. let y : ⊥ = omega (arith, flat.high) in y) (λ z. let y : ⊥ = omega (arith, flat.high, z.0) in y)
      (before_cases (65535 - a) (65535 - d.kind) (at vs (template_of a).order) (at (pad 8 0 d.corners) (template_of d.kind).order) e))
  searched (within v q g x) = next-kind tet_rule (cells_of m t) (kind m t flat) (alike_own q g) x
  searched (whole l x) = next-kind tet_rule (cells_of m t) (kind m t flat) (alike_all l) x

-- ── the three kinds, in turn ──

module _ (m : Mesh) {a : ℕ} {vs : List ℕ} where
  all_kinds : {found : Bool} {c : Cell} → Next tet_rule (cells_of m hexahedron ++ (cells_of m prism ++ cells_of m pyramid)) (a ∷ vs) found c → Next tet_rule (full_list m) (a ∷ vs) found c
  all_kinds {found} {c} x = subst (λ l. Next tet_rule l (a ∷ vs) found c) (sym (full_is m)) x

  -- a hexahedron is found
  pub found_8 : {r : List ℕ} → Searched m hexahedron a vs true r → Next tet_rule (full_list m) (a ∷ vs) true (cell_at m hexahedron r)
  found_8 x = all_kinds (next-left tet_rule (cells_of m hexahedron) (cells_of m prism ++ cells_of m pyramid) (hexahedra_first m) (searched m hexahedron flat-hexahedron x))

  -- none, but a prism is
  pub found_6 : {q r : List ℕ} → Searched m hexahedron a vs false q → Searched m prism a vs true r → Next tet_rule (full_list m) (a ∷ vs) true (cell_at m prism r)
  found_6 w x =
      all_kinds
      (next_right tet_rule (cells_of m hexahedron) (cells_of m prism ++ cells_of m pyramid) (searched m hexahedron flat-hexahedron w)
      (next-left tet_rule (cells_of m prism) (cells_of m pyramid) (fall m prism pyramid flat-prism flat-pyramid (omega arith)) (searched m prism flat-prism x)))

  -- neither: what is found is a pyramid, or there is no cell
  pub found_5 : {p q r : List ℕ} {found : Bool} → Searched m hexahedron a vs false p → Searched m prism a vs false q → Searched m pyramid a vs found r → Next tet_rule (full_list m) (a ∷ vs) found (cell_at m pyramid r)
  found_5 v w x =
      all_kinds
      (next_right tet_rule (cells_of m hexahedron) (cells_of m prism ++ cells_of m pyramid) (searched m hexahedron flat-hexahedron v)
      (next_right tet_rule (cells_of m prism) (cells_of m pyramid) (searched m prism flat-prism w) (searched m pyramid flat-pyramid x)))

-- a pyramid that comes after the mark remains
pub pyramid-remains : (m : Mesh) (k s : List ℕ) → is_leaf m pyramid s ≡ true → is_after tet_rule k (cell_at m pyramid s) ≡ true → remains tet_rule (full_list m) k ≡ true
pyramid-remains m k s e l =
    let c = cell_at m pyramid s in
    let h = Memᴰ.append_right (cells_of m hexahedron) (Memᴰ.append_right (cells_of m prism) ((kind m pyramid flat-pyramid).has s e)) in
    later-remains tet_rule (full_list m) (lawful m) k c (subst (Memᴰ c) (sym (full_is m)) h) l

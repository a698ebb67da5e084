-- The search for the first cell after a mark: what it promises of one kind, and of all three in turn.
-- Assumes nothing.
use Rattle.std.specs.Prelude.{ℕ, ◌<◌, ◌≡◌, true, false, Option, Some, None, List, [], ◌∷◌, get_or, drop, replicate}
use Rattle.space.specs.Mesh.{Mesh}
use Rattle.templates.specs.Tables.{Template, at}
use Rattle.templates.specs.Kinds.{template}
use Rattle.templates.specs.declared.kind.Kind.{Kind}
use Rattle.templates.specs.declared.kind.Kind.TheVariants.{Pyramid, Prism, Hexahedron}
use Rattle.cells.specs.Full.{Cell, full_list}
use Rattle.record.specs.Marks.{cell_mark, mark_of}
use Rattle.filling.specs.declared.Tets.{Tets}
use Rattle.filling.specs.between.Numbered.{Numbered}
use Rattle.portions.specs.between.Tuples.{Agree}
use Rattle.portions.specs.between.Steps.{Next}
use Rattle.rule.specs.Rule.{tet_rule}
use Rattle.rule.specs.between.Leaf.{cell_at, Searched}
use Rattle.following.specs.declared.NextCell.{NextCell}

-- where the search of one kind begins for the mark of kind a with the numbers vs:
-- in its own kind at these in search order, in a kind below at zeros
pub record Begun (t : Template) (a : ℕ) (vs r : List ℕ) : Type 0 where
  pub own : a ≡ t.kind → Agree t.corners r (at vs t.order)
  pub below : t.kind < a → r ≡ replicate 8 0

-- the search of one kind for the mark k found a cell: j is its mark, and f has its tetrahedra
pub record Stepped (m : Mesh) (t : Template) (k j : List ℕ) (f : Tets) : Type 0 where
  pub tuple : List ℕ
  pub searched : Searched m t (get_or k 0 0) (drop 1 k) true tuple
  pub marked : cell_mark (cell_at m t tuple) ≡ j
  pub tets : Numbered (cell_at m t tuple).tets f

-- or there is none
abbrev pub NoneOf : Mesh → Template → List ℕ → Type 0
NoneOf m t k = (r : List ℕ) × Searched m t (get_or k 0 0) (drop 1 k) false r

abbrev pub Steps : Mesh → Template → List ℕ → Option NextCell → Type 0
Steps m t k None = NoneOf m t k
Steps m t k (Some s) = Stepped m t k (mark_of s.mark) s.tets

-- the kinds in the order of the listing
abbrev pub kinds : List Kind
kinds = Hexahedron ∷ Prism ∷ Pyramid ∷ []

-- the first i of them have no cell after the mark k
abbrev pub NoneIn : Mesh → List ℕ → ℕ → Type 0
NoneIn m k i = (j : ℕ) → j < i → NoneOf m (template (get_or kinds j Pyramid)) k

-- the first cell after the mark k is the one with the mark j, and f has its tetrahedra
pub record Came (m : Mesh) (k j : List ℕ) (f : Tets) : Type 0 where
  pub cell : Cell
  pub next : Next tet_rule (full_list m) k true cell
  pub marked : cell_mark cell ≡ j
  pub tets : Numbered cell.tets f

-- or there is none
abbrev pub Comes : Mesh → List ℕ → Option NextCell → Type 0
Comes m k None = (c : Cell) × Next tet_rule (full_list m) k false c
Comes m k (Some s) = Came m k (mark_of s.mark) s.tets

-- What a finding tells: the condition fails, and where it says; every earlier condition holds, and every earlier place
-- of the same table passes. And that a cell is told of exactly where its least form stands in the full list.
-- Assumes nothing.
use Rattle.std.specs.Prelude.{ℕ, ◌≡◌, Bool, true, false, leb, length, take}
use mathlib.Core.List.{List, [], ◌∷◌, Memᴰ}
use Rattle.base.specs.Lists.{all, every, up_to}
use Rattle.space.specs.Box.{is_above0}
use Rattle.space.specs.Mesh.{Mesh, together}
use Rattle.portions.specs.Portions.{before, rises}
use Rattle.templates.specs.Tables.{Template, at}
use Rattle.least.specs.Least.{is_least}
use Rattle.cells.specs.Cells.{inside, paired, box_at, is_tuple, has_edges, is_facet, has_faces, is_sound, sides, is_filled, is_one_part, numbers_of}
use Rattle.cells.specs.Full.{cell, full_list}
use Rattle.reasons.specs.declared.Finding.{Finding}
use Rattle.reasons.specs.declared.Finding.TheVariants.{Cell, Turned, BadCorner, NoEdge, NoFace, BadBox, OpenFace, OpenTriple, TwoParts}
use Rattle.reasons.specs.First.{FirstFails}
use Rattle.reasons.specs.Reason.{is_new, faces, is_there, is_closed, others, rising, cell_by, turned_by, least_turn}

-- x is one of the lists, and none of them is before it
pub record LeastOf (x : List ℕ) (In : List ℕ → Type 0) : Type 0 where
  pub is : In x
  pub least : (y : List ℕ) → In y → before y x ≡ false

module _ (m : Mesh) (t : Template) (c : List ℕ) where
  -- the six conditions, and that the first k of them hold
  abbrev pub conditions : List Bool
  conditions = is_tuple m t c ∷ has_edges m t c ∷ has_faces m t c ∷ is_sound m t c ∷ is_filled m t c ∷ is_one_part m t c ∷ []

  abbrev pub Holds : ℕ → Type 0
  Holds k = every (take k conditions) ≡ true

  -- the vertices, rising, of another triple that is a facet of neither none nor two
  pub record Offends (vs : List ℕ) : Type 0 where
    pub triple : List ℕ
    pub other : Memᴰ triple (others (sides m t c) (inside t) t.quads)
    pub offends : paired (sides m t c) triple ≡ false
    pub vertices : vs ≡ rising (at c triple)
    pub rise : rises leb vs ≡ true

  abbrev pub True : Finding → Type 0
  True (Cell a b d e f g h i) = Holds 6 × (is_least t c ≡ true) × (Cell a b d e f g h i ≡ cell_by (least_turn t c))
  True (Turned a b d e f g h i) = Holds 6 × (is_least t c ≡ false) × (Turned a b d e f g h i ≡ turned_by (least_turn t c))
  True (BadCorner i) = (is_tuple m t c ≡ false) × FirstFails (is_new (length m.points) c) (up_to t.corners) i
  True (NoEdge i) = Holds 1 × (has_edges m t c ≡ false) × FirstFails (λ ks. together m (at c ks)) t.edges i
  True (NoFace i) = Holds 2 × (has_faces m t c ≡ false) × FirstFails (is_there (is_facet m t c)) (faces t) i
  True (BadBox i) = Holds 3 × (is_sound m t c ≡ false) × FirstFails (λ ks. is_above0 (box_at m (at c ks))) t.triples i
  True (OpenFace i) = Holds 4 × (is_filled m t c ≡ false) × FirstFails (is_closed (sides m t c)) (faces t) i
  True (OpenTriple a b d) =
      Holds 4 × (is_filled m t c ≡ false) × (all (is_closed (sides m t c)) (faces t) ≡ true)
      × LeastOf (a ∷ b ∷ d ∷ []) Offends
  True TwoParts = Holds 5 × (is_one_part m t c ≡ false)

-- one of the two findings of a cell
abbrev pub isACell : Finding → Bool
isACell (Cell a b c d e f g h) = true
isACell (Turned a b c d e f g h) = true
isACell (BadCorner i) = false
isACell (NoEdge i) = false
isACell (NoFace i) = false
isACell (BadBox i) = false
isACell (OpenFace i) = false
isACell (OpenTriple a b c) = false
isACell TwoParts = false

-- a cell is told of exactly where the least form stands in the full list, and there it has the tuple's tetrahedra
pub record InTheList (m : Mesh) (t : Template) (c : List ℕ) (w : Finding) : Type 0 where
  pub there : isACell w ≡ true → Memᴰ (cell t.kind (least_turn t c) (numbers_of m t c)) (full_list m)
  pub back : (ts : List ℕ) → Memᴰ (cell t.kind (least_turn t c) ts) (full_list m) → isACell w ≡ true

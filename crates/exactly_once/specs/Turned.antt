-- What turning a tuple changes of it, and what its mirror changes.
-- Assumes nothing.
use Rattle.std.specs.Prelude.{ℕ, ◌≡◌, true, neg_ℤ}
use mathlib.Core.List.{List, Memᴰ}
use Rattle.space.specs.Mesh.{Mesh}
use Rattle.templates.specs.Tables.{Template, at}
use Rattle.cells.specs.Cells.{is_tuple, has_edges, has_faces, box_at, is_sound, tets_of, numbers_of, is_filled, is_one_part, is_cell}

-- the tuples c and d: each of conditions 1 to 6 has the same truth at both, and their tetrahedra are the same
pub record Same (m : Mesh) (t : Template) (c d : List ℕ) : Type 0 where
  pub tuple : is_tuple m t c ≡ is_tuple m t d
  pub edges : has_edges m t c ≡ has_edges m t d
  pub faces : has_faces m t c ≡ has_faces m t d
  pub sound : is_sound m t c ≡ is_sound m t d
  pub filled : is_filled m t c ≡ is_filled m t d
  pub one_part : is_one_part m t c ≡ is_one_part m t d
  pub cell : is_cell m t c ≡ is_cell m t d
  pub tets : tets_of m t c ≡ tets_of m t d
  pub numbers : numbers_of m t c ≡ numbers_of m t d

-- the tuple c and its mirror
pub record Mirrored (m : Mesh) (t : Template) (c : List ℕ) : Type 0 where
  -- each corner box of the mirror is one of the tuple's, negated
  pub negated : {ks : List ℕ} → Memᴰ ks t.triples
      → (js : List ℕ) × Memᴰ js t.triples × (box_at m (at (at c t.mirror) ks) ≡ neg_ℤ (box_at m (at c js)))
  -- and each corner box of the tuple, negated, is one of the mirror's
  pub reached : {js : List ℕ} → Memᴰ js t.triples
      → (ks : List ℕ) × Memᴰ ks t.triples × (box_at m (at (at c t.mirror) ks) ≡ neg_ℤ (box_at m (at c js)))
  -- not both hands are sound
  pub one_hand : is_sound m t c ≡ true → is_sound m t (at c t.mirror) ≡ true → ⊥

-- What it says that a tuple is a cell: each of the six conditions. Assumes nothing.
use mathlib.Core.Path.{◌≡◌}
use mathlib.Core.Bool.{true, ◌&&◌}
use mathlib.Core.List.{List}
use Prim.Native.Nat.{ℕ}
use borrow.Author.Tests.{eqb-true}
use lib.Dec.{eqb, ltb}
use lib.ListN.{length}
use Rattle.base.specs.Lists.{all, distinct}
use Rattle.base.proofs.Lists.{both_left, both_right}
use Rattle.space.specs.Mesh.{Mesh}
use Rattle.templates.specs.Tables.{Template}
use Rattle.cells.specs.Cells.{box_at, boxes_above, is_tuple, has_edges, has_faces, is_sound, is_filled, is_one_part, is_cell}

pub record Conditions (m : Mesh) (t : Template) (c : List ℕ) : Type 0 where
  pub tuple : is_tuple m t c ≡ true
  pub edges : has_edges m t c ≡ true
  pub faces : has_faces m t c ≡ true
  pub sound : is_sound m t c ≡ true
  pub filled : is_filled m t c ≡ true
  pub one_part : is_one_part m t c ≡ true

pub cell_meets : (m : Mesh) (t : Template) (c : List ℕ) → is_cell m t c ≡ true → Conditions m t c
unfolding is_cell
cell_meets m t c e =
    let e5 = both_left _ (is_one_part m t c) e in
    let e4 = both_left _ (is_filled m t c) e5 in
    let e3 = both_left _ (is_sound m t c) e4 in
    let e2 = both_left _ (has_faces m t c) e3 in
    record {
      tuple = both_left _ (has_edges m t c) e2;
      edges = both_right (is_tuple m t c) _ e2;
      faces = both_right (is_tuple m t c && has_edges m t c) _ e3;
      sound = both_right (is_tuple m t c && has_edges m t c && has_faces m t c) _ e4;
      filled = both_right (is_tuple m t c && has_edges m t c && has_faces m t c && is_sound m t c) _ e5;
      one_part = both_right (is_tuple m t c && has_edges m t c && has_faces m t c && is_sound m t c && is_filled m t c) _ e;
    }

-- what condition 1 says
pub record Corners (n k : ℕ) (c : List ℕ) : Type 0 where
  pub long : length c ≡ k
  pub below : all (λ v. ltb v n) c ≡ true
  pub apart : distinct c ≡ true

pub tuple-corners : (m : Mesh) (t : Template) (c : List ℕ) → is_tuple m t c ≡ true → Corners (length m.points) t.corners c
unfolding is_tuple
tuple-corners m t c e =
    let e1 = both_left _ (distinct c) e in
    record {
      long = eqb-true _ _ (both_left _ (all (λ v. ltb v (length m.points)) c) e1);
      below = both_right (eqb (length c) t.corners) _ e1;
      apart = both_right (eqb (length c) t.corners && all (λ v. ltb v (length m.points)) c) _ e;
    }

pub cell-corners : (m : Mesh) (t : Template) (c : List ℕ) → is_cell m t c ≡ true → Corners (length m.points) t.corners c
cell-corners m t c e = tuple-corners m t c (cell_meets m t c e).tuple

-- what condition 4 gives to a search that leaves candidates out: the boxes of the template's corner triples
pub sound_boxes : (m : Mesh) (t : Template) (c : List ℕ) → is_sound m t c ≡ true → boxes_above (box_at m) c t.triples ≡ true
unfolding is_sound
sound_boxes m t c e = e

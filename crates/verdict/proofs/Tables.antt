-- Flat tables that are a template's: what the functions say of them is said of the template. Assumes nothing.
use mathlib.Core.Path.{◌≡◌, sym}
use mathlib.Core.List.{List}
use Prim.Native.Nat.{ℕ, ◌/◌}
use lib.IntN.{ℤ}
use lib.ListN.{length}
use Rattle.space.specs.Arrays.{mesh_of}
use Rattle.templates.specs.Tables.{Template}
use Rattle.cells.specs.Cells.{are_corners, all_joined, all_faces, boxes_above, box_of, is_tuple, has_edges, has_faces, is_sound, is_filled, is_one_part, numbers_of}
use Rattle.cells.specs.between.Rows.{threes, fours, points_of, facet_in, own_numbers}
use Rattle.tets_around.specs.Sharing.{together_in}
use Rattle.cells.proofs.InArrays.{tuple_in, edges_in, faces_in, sound_in, numbers_in, filled_in, part_in}
use Rattle.verdict.specs.between.Judged.{TablesOf}
use Rattle.judging.specs.between.Last.{last_of, last_with, last_failing}

module _ (zs : List ℤ) (ls ps c : List ℕ) {t : Template} {k : ℕ} {ts qs cs ws : List ℕ} (w : TablesOf t k ts qs cs ws) where
  pub tuple_is : are_corners (length zs / 3) k c ≡ is_tuple (mesh_of zs ls ps) t c
  tuple_is = rw w.corners (sym (tuple_in zs ls ps t c))

  pub edges-is : {es : List (List ℕ)} → es ≡ t.edges → all_joined (together_in ls) c es ≡ has_edges (mesh_of zs ls ps) t c
  edges-is e = rw e (sym (edges_in zs ls ps t c))

  pub faces-is : all_faces (facet_in ls c) (threes ts) (fours qs) ≡ has_faces (mesh_of zs ls ps) t c
  faces-is = rw (w.triangles, w.quads) (sym (faces_in zs ls ps t c))

  pub sound-is : boxes_above (box_of (points_of zs)) c (fours cs) ≡ is_sound (mesh_of zs ls ps) t c
  sound-is = rw w.triples (sym (sound_in zs ls ps t c))

  pub numbers-is : own_numbers ls (fours qs) c ≡ numbers_of (mesh_of zs ls ps) t c
  numbers-is = rw w.quads (sym (numbers_in zs ls ps t c))

  -- conditions 5 and 6 together
  pub last-is : last_failing ls ps c ts qs ws ≡ last_of (is_filled (mesh_of zs ls ps) t c) (is_one_part (mesh_of zs ls ps) t c)
  unfolding last_with is_filled
  last-is = rw (w.triangles, w.quads, w.within, ← filled_in zs ls ps t c, ← part_in zs ls ps t c)

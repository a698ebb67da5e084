-- What rows are computed by: names under which definitions are opened together.
-- Assumes nothing.
use Prim.Native.Nat.{ℕ}
use Rattle.base.specs.Lists.{keep, spread}
use Rattle.base.specs.Refusals.{first_of}
use Rattle.space.specs.Box.{box}
use Rattle.space.specs.Mesh.{together}
use Rattle.layout.specs.Bytes.{signed32, i32_at}
use Rattle.layout.specs.Layout.{length_right, counts_right, layout_right, coords_in, labels_in, parts_in}
use Rattle.tets.specs.Tets.{box_in, outside, twice, flat}
use Rattle.facets.specs.Facets.{opposite, full, crowded, astray, clashes, clashing, folded}
use Rattle.refusals.specs.Named.{unless}
use Rattle.arrays.specs.Refusals.{refusal}
use Rattle.cells.specs.Cells.{one_diagonal, other_diagonal, corner3, inside, one, none_or_two, is_tuple, has_edges, is_facet, is_split, has_faces, box_at, is_sound, belongs, tets_of, sides, is_once, is_paired, is_covered, is_filled_by, is_filled, is_one_part}

-- what an answer of the check is computed by
unfoldable pub reading : ℕ
unfolding box signed32 i32_at length_right counts_right layout_right coords_in labels_in parts_in box_in opposite outside twice flat full crowded astray clashes clashing folded first_of refusal unless
reading = 0

-- what conditions 1 to 6 are computed by
unfoldable pub weighing : ℕ
unfolding keep spread together box one_diagonal other_diagonal corner3 inside one none_or_two is_tuple has_edges is_facet is_split has_faces box_at is_sound belongs tets_of sides is_once is_paired is_covered is_filled_by is_filled is_one_part
weighing = 0

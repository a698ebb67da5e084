-- The tables of the three kinds as the code has them: kind after kind, every row laid end to end.
-- Assumes nothing.
use Rattle.std.specs.Prelude.{ℕ, ◌+◌, ◌≤◌, cond, List, ◌++◌, eqb, length}
use Rattle.base.specs.Lists.{spread}
use Rattle.templates.specs.Tables.{Template, hexahedron, prism, pyramid}
use Rattle.cells.specs.Cells.{inside}
use Rattle.verdict.specs.declared.rows.Bounds.{Bounds}

-- a table's rows end to end
abbrev pub end_to_end : List (List ℕ) → List ℕ
end_to_end rs = spread (λ r. r) rs

-- the tables of a kind, and of the three
unfoldable pub flat_tables : Template → List ℕ
flat_tables t = end_to_end t.edges ++ end_to_end t.triangles ++ end_to_end t.quads ++ end_to_end t.triples ++ end_to_end (inside t)

unfoldable pub all_rows : List ℕ
all_rows = flat_tables hexahedron ++ flat_tables prism ++ flat_tables pyramid

-- where each table of a kind begins, the first at place n, and where the last ends
unfoldable pub standing : ℕ → Template → Bounds
standing n t =
    let triangles = n + length (end_to_end t.edges) in
    let quads = triangles + length (end_to_end t.triangles) in
    let triples = quads + length (end_to_end t.quads) in
    let within = triples + length (end_to_end t.triples) in
    record {
      corners = t.corners;
      edges = n;
      triangles = triangles;
      quads = quads;
      triples = triples;
      within = within;
      end = within + length (end_to_end (inside t));
    }

-- the three kinds in `all_rows`
abbrev pub hexahedron_at : Bounds
hexahedron_at = standing 0 hexahedron

abbrev pub prism_at : Bounds
prism_at = standing (length (flat_tables hexahedron)) prism

abbrev pub pyramid_at : Bounds
pyramid_at = standing (length (flat_tables hexahedron ++ flat_tables prism)) pyramid

-- of any kind; other than 8 and 6 it counts as 5
unfoldable pub bounds_of : ℕ → Bounds
bounds_of k = cond (eqb k 8) hexahedron_at (cond (eqb k 6) prism_at pyramid_at)

-- the bounds rise, within the rows of all, and a tuple of eight has a vertex for every corner
pub record BoundsRise (b : Bounds) : Type 0 where
  pub corners : b.corners ≤ 8
  pub edges : b.edges ≤ b.triangles
  pub triangles : b.triangles ≤ b.quads
  pub quads : b.quads ≤ b.triples
  pub triples : b.triples ≤ b.within
  pub within : b.within ≤ b.end
  pub end : b.end ≤ 308

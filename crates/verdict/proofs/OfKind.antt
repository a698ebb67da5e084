-- The facts of the rows of all between the bounds of a kind, for every kind. Assumes nothing.
use mathlib.Core.Path.{◌≡◌, refl}
use mathlib.Core.Bool.{Bool, true, false, cond}
use mathlib.Core.List.{List}
use Prim.Native.Nat.{ℕ, ◌-◌, ◌≤◌}
use native.Mathlib.Omega.{arith}
use borrow.Author.Tests.{leb-true}
use lib.Dec.{eqb}
use lib.ListN.{take, drop}
use Rattle.base.specs.Lists.{keep, spread}
use Rattle.templates.specs.Tables.{Template, hexahedron, prism, pyramid, template_of}
use Rattle.templates.specs.between.Flat.{pairs}
use Rattle.cells.specs.Cells.{one_diagonal, other_diagonal, inside, corner3}
use Rattle.counting.specs.between.Bits.{low, Lettered}
use Rattle.verdict.specs.declared.rows.Bounds.{Bounds}
use Rattle.verdict.specs.between.Judged.{TablesOf}
use Rattle.verdict.specs.between.FlatTables.{flat_tables, all_rows, standing, hexahedron_at, prism_at, pyramid_at, bounds_of, BoundsRise}
use Rattle.verdict.proofs.Solid.{edged}

-- the numbers from place i up to place j
abbrev pub cut : List ℕ → ℕ → ℕ → List ℕ
cut xs i j = take (j - i) (drop i xs)

-- between the bounds stand the template's tables, they name no corner past h, and every edge is a side of a face
pub record Kind (xs : List ℕ) (b : Bounds) (t : Template) : Type 0 where
  pub rising : BoundsRise b
  pub tables : TablesOf t b.corners (cut xs b.triangles b.quads) (cut xs b.quads b.triples) (cut xs b.triples b.within) (cut xs b.within b.end)
  pub edges : pairs (cut xs b.edges b.triangles) ≡ t.edges
  pub lettered : Lettered (cut xs b.triangles b.quads) (cut xs b.quads b.triples) (cut xs b.within b.end)
  pub edged : edged t ≡ true

rises : (n : ℕ) (t : Template) → t.corners ≤ 8 → (standing n t).end ≤ 308 → BoundsRise (standing n t)
unfolding standing
rises n t c e = record {
  corners = c;
  edges = omega arith;
  triangles = omega arith;
  quads = omega arith;
  triples = omega arith;
  within = omega arith;
  end = e;
}

by_kind : (x y : Bool) → Kind all_rows (cond x hexahedron_at (cond y prism_at pyramid_at)) (cond x hexahedron (cond y prism pyramid))
unfolding flat_tables all_rows standing inside corner3 keep spread low one_diagonal other_diagonal
by_kind true y = record {
  rising = rises _ hexahedron (leb-true _ _ refl) (leb-true _ _ refl);
  tables = record { corners = refl; triangles = refl; quads = refl; triples = refl; within = refl };
  edges = refl;
  lettered = record { triangles = refl; quads = refl; within = refl };
  edged = refl;
}
by_kind false true = record {
  rising = rises _ prism (leb-true _ _ refl) (leb-true _ _ refl);
  tables = record { corners = refl; triangles = refl; quads = refl; triples = refl; within = refl };
  edges = refl;
  lettered = record { triangles = refl; quads = refl; within = refl };
  edged = refl;
}
by_kind false false = record {
  rising = rises _ pyramid (leb-true _ _ refl) (leb-true _ _ refl);
  tables = record { corners = refl; triangles = refl; quads = refl; triples = refl; within = refl };
  edges = refl;
  lettered = record { triangles = refl; quads = refl; within = refl };
  edged = refl;
}

pub of-kind : (k : ℕ) {xs : List ℕ} {b : Bounds} → xs ≡ all_rows → b ≡ bounds_of k → Kind xs b (template_of k)
unfolding bounds_of
of-kind k e f = rw (e, f) (by_kind (eqb k 8) (eqb k 6))

pub bounded : (k : ℕ) {b : Bounds} → b ≡ bounds_of k → (b ≡ bounds_of k) × BoundsRise b
bounded k f = (f, (of-kind k refl f).rising)

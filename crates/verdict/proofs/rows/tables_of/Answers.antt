-- `verdict::rows::tables_of` meets its contract. Assumes nothing.
use lib.ListN.{length-take}
use native.Mathlib.Omega.{arith}
use Rattle.verdict.proofs.OfKind.{of-kind}
use Rattle.verdict.proofs.rows.tables_of.Goals as goal

pub returns : goal.returns
returns c = let w = of-kind c.args.kind c.all_rows-all.ensures c.bounds_of-corners.ensures.value in record { tables = w.tables; edges = w.edges }

pub invariant_of-result : goal.invariant_of-result
invariant_of-result c = let w = of-kind c.args.kind c.all_rows-all.ensures c.bounds_of-corners.ensures.value in record {
  few = w.rising.corners;
  short_triangles = simp length-take (omega (arith, w.rising.quads, w.rising.triples, w.rising.within, w.rising.end));
  short_quads = simp length-take (omega (arith, w.rising.triples, w.rising.within, w.rising.end));
  lettered = w.lettered;
}

-- `facet_pairs::put_tet` meets its contract. Assumes nothing.
use Rattle.facet_pairs.proofs.Telling.{put-tet}
use Rattle.facet_pairs.proofs.put_tet.Goals as goal

pub returns : goal.returns
returns c = let a = c.args in put-tet a.e.0 a.a.0 a.b.0 a.c.0 a.d.0 c.put_at_facet.ensures c.put_at_facet-2.ensures c.put_at_facet-3.ensures c.put_at_facet-4.ensures

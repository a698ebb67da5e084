-- `record::put_record` meets its contract. Assumes nothing.
use mathlib.Core.Path.{sym, ap}
use mathlib.Core.List.{◌++◌}
use native.Mathlib.Omega.{arith}
use Rattle.base.proofs.Lay.{laid_more, laid_as}
use Rattle.record.proofs.Entries.{record_is}
use Rattle.record.proofs.put_record.Goals as goal

pub returns : goal.returns
returns c = let h = c.head_of-head.ensures in laid_as (laid_more c.put.ensures _ (omega (arith, h.1)) c.put-2.ensures (ap (λ l. l ++ c.args.list) (sym h.0))) (record_is _ c.args.list c.args.count c.requires.count_le_tet_places.0 c.requires.count_le_tet_places.1)

-- `reading_lists::put_at` meets its contract. Assumes nothing.
use mathlib.Core.Path.{sym}
use lib.Seq.{set_out}
use Rattle.reading_lists.proofs.put_at.Goals as goal

pub returns-else-at-list : goal.returns-else-at-list
returns-else-at-list g c = sym (set_out c.args.list.now c.args.k c.args.x c.if-at-list.false)

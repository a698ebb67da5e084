-- `cells::all_below` meets its contract. Assumes nothing.
use lib.Dec.{ltb}
use Rattle.std.proofs.Common.{rules}
use Rattle.templates.proofs.Rows.{all_of}
use Rattle.cells.proofs.all_below.Goals as goal

pub returns : goal.returns
returns c = all_of (λ v. ltb v c.args.n) c.args.c.now (search rules) c.all.ensures.ran (λ x b q g. search rules)

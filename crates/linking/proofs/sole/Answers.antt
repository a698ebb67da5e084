-- `linking::sole` meets its contract. Assumes nothing.
use Rattle.linking.proofs.Adding.{links-only}
use Rattle.linking.proofs.sole.Goals as goal

pub returns : goal.returns
returns c = links-only c.sole_row.result c.shorter-row.ensures.chosen c.sole_row.ensures

-- `reaching::Near::beyond` meets its contract. Assumes nothing.
use Rattle.reaching.proofs.Entries.{closes_least}
use Rattle.reaching.proofs.Near.beyond.Goals as goal

pub returns : goal.returns
returns c = closes_least c.shorter-row.ensures.chosen c.beside_row.ensures

-- `reaching::Near::facing` meets its contract. Assumes nothing.
use Rattle.reaching.proofs.Least.{least-of}
use Rattle.reaching.proofs.Entries.{faces-least}
use Rattle.reaching.proofs.Near.facing.Goals as goal

pub returns-then-row-gt-MANY : goal.returns-then-row-gt-MANY
returns-then-row-gt-MANY c = least-of c.next_hinted.ensures (λ v f. f.hint)

pub returns : goal.returns
returns c = faces-least c.shorter-row.ensures.chosen c.lower-b.ensures c.hinted_row.ensures

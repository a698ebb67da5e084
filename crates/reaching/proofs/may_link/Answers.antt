-- `reaching::may_link` meets its contract. Assumes nothing.
use borrow.Author.Rules.{rules}
use Rattle.reaching.specs.between.Reaching.{may_link}
use Rattle.reaching.proofs.may_link.Goals as goal

pub returns-then-y-e-4 : goal.returns-then-y-e-4
unfolding may_link
returns-then-y-e-4 c = search rules

pub returns-else-y-e-4 : goal.returns-else-y-e-4
unfolding may_link
returns-else-y-e-4 c = search rules

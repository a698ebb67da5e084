-- `failing::corner_in` meets its contract. Assumes nothing.
use Rattle.std.proofs.Common.{rules}
use Rattle.reasons.specs.Reason.{is_new}
use Rattle.failing.proofs.corner_in.Goals as goal

pub returns : goal.returns
returns c = c.first_fail.ensures (is_new c.args.n c.args.c.now) (λ i b low said. search rules)

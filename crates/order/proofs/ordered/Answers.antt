-- `order::ordered` meets its contract. Assumes nothing.
use mathlib.Core.Path.{◌∙◌}
use Rattle.order.proofs.Fronts.{ordered-eight}
use Rattle.order.proofs.ordered.Goals as goal

pub returns : goal.returns
returns c = c.turned.ensures ∙ ordered-eight c.args.kind c.args.c c.from.ensures c.order_of.ensures

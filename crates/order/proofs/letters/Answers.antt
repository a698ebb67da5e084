-- `order::letters` meets its contract. Assumes nothing.
use mathlib.Core.Path.{◌∙◌}
use Rattle.order.proofs.Fronts.{letters-eight}
use Rattle.order.proofs.letters.Goals as goal

pub returns : goal.returns
returns c = c.turned.ensures ∙ letters-eight c.args.kind c.args.s c.from.ensures c.places_of.ensures

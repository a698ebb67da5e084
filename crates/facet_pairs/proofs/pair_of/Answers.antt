-- `facet_pairs::pair_of` meets its contract. Assumes nothing.
use Rattle.facet_pairs.proofs.Telling.{named, named_none}
use Rattle.facet_pairs.proofs.pair_of.Goals as goal

pub returns-then-two : goal.returns-then-two
returns-then-two c = let a = c.args in named_none a.a.0 a.b.0 a.c.0

pub returns-else-two : goal.returns-else-two
returns-else-two c = named c.requires.pairs_of c.args.a.0 c.args.b.0 c.args.c.0 c.pair_place-at.result c.requires.c_value c.pair_place-at.ensures.0 c.if-two.false

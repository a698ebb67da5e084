-- `decoding::all_near` meets its contract. Assumes nothing.
use lib.IntN.{pos}
use borrow.Author.Rules.{rules}
use Rattle.space.specs.Box.{near}
use Rattle.decoding.proofs.Parts.{all_by}
use Rattle.decoding.proofs.all_near.Goals as goal

pub returns : goal.returns
returns c = all_by near (pos 0) c.args.coords.now c.all.result (search rules) (search rules)

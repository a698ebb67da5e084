-- `tets::names_twice` meets its contract. Assumes nothing.
use Rattle.std.proofs.Common.{rules}
use Rattle.tets.specs.Tets.{twice}
use Rattle.tets.proofs.names_twice.Goals as goal

pub returns-then-b-d : goal.returns-then-b-d
unfolding twice
returns-then-b-d c = search rules

pub returns-else-b-d : goal.returns-else-b-d
unfolding twice
returns-else-b-d c = search rules

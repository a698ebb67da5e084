-- `mesh::counts_of` meets its contract. Assumes nothing.
use mathlib.Core.Path.{sym, ap, ◌∙◌}
use Rattle.mesh.specs.Counts.{sizes_of, sizes_in}
use Rattle.mesh.proofs.counts_of.Goals as goal

pub returns-in-Ok : goal.returns-in-Ok
unfolding sizes_in
returns-in-Ok c = ap sizes_of c.in-Ok.ensures

pub returns-in-Err : goal.returns-in-Err
unfolding sizes_in
returns-in-Err c = ap sizes_of c.in-Err.ensures

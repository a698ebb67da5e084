-- `mesh::refusal_of` meets its contract. Assumes nothing.
use mathlib.Core.Path.{sym, ◌∙◌}
use Rattle.arrays.proofs.Answers.{accepted-says, refused_says, refusal_named}
use Rattle.mesh.proofs.refusal_of.Goals as goal

pub returns-in-Ok : goal.returns-in-Ok
returns-in-Ok c = sym (accepted-says c.args.file.now (sym c.in-Ok.ensures)).0

pub returns-in-Err : goal.returns-in-Err
returns-in-Err c = let f = c.args.file.now in c.from.ensures ∙ sym (refused_says f (refusal_named f) (sym c.in-Err.ensures))

-- `portioning::write_listed` meets its contract. Assumes nothing.
use Rattle.neighbours.proofs.Reading.{tabled-rowed}
use Rattle.portioning.proofs.write_listed.Goals as goal

pub invariant_of-near : goal.invariant_of-near
invariant_of-near c = record { lent = record { few = c.args.mesh.now.arrays.few; rowed = tabled-rowed c.requires } }

pub invariant_of-ground : goal.invariant_of-ground
invariant_of-ground c = record { ready = record { arrays = c.args.mesh.now.arrays; hinted = c.hint_facets.ensures; tabled = c.requires } }

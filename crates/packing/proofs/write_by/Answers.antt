-- `packing::write_by` meets its contract. Assumes nothing.
use Rattle.packing.proofs.write_by.Goals as goal

pub returns-clause-answer : goal.returns-clause-answer
returns-clause-answer c = rw (← c.put_file.ensures) c.store.ensures.answer

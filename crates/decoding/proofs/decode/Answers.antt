-- `decoding::decode` meets its contract: what was read is what the file says. Assumes nothing.
use Rattle.decoding.proofs.Parts.{coords_of_part, labels_of_part, parts_of_part}
use Rattle.decoding.proofs.decode.Goals as goal

pub returns : goal.returns
returns c = let h = c.requires.framed in let e = c.read_tets.ensures in record { coordinates = coords_of_part h c.read_coordinates.ensures c.requires.coords_len.0; numbers = labels_of_part h e.numbers c.requires.coords_len.1.0; partition = parts_of_part h e.partition c.requires.coords_len.1.1 }

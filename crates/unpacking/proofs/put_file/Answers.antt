-- `unpacking::put_file` meets its contract: what was read is what the file says. Assumes nothing.
use Rattle.unpacking.proofs.Texts.{file-laid, file-fits}
use borrow.Author.Rules.{rules}
use Rattle.unpacking.proofs.put_file.Goals as goal

pub put_lists-requires : goal.put_lists-requires
put_lists-requires c = let d = c.decode.ensures in
    file-fits c.args.file.now c.requires.framed.1 d.coordinates d.numbers d.partition d.long.0 d.long.1.0 d.long.1.1 (search rules)

pub returns : goal.returns
returns c = let d = c.decode.ensures in
    let whole = file-laid c.args.file.now d.coordinates d.numbers d.partition (c.put_lists.ensures.next, c.put_lists.ensures.text) in
    record { next = whole.0; text = whole.1 }

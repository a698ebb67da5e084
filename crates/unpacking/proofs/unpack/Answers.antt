-- `unpacking::unpack` meets its contract: the text, or the refusal. Assumes nothing.
use mathlib.Core.Path.{sym, ap, ◌∙◌}
use Rattle.refusals.proofs.Named.{handed_on}
use Rattle.packing.specs.Packed.{room_after}
use Rattle.unpacking.specs.Unpacked.{file_text}
use Rattle.unpacking.proofs.Texts.{framed-by, whole_is, refused-is, front-laid}
use borrow.Author.Rules.{rules}
use Rattle.unpacking.proofs.unpack.Goals as goal

pub put_file-requires : goal.put_file-requires
put_file-requires c = let e = sym c.in_ok-counts.ensures in
    record { framed = (framed-by c.args.file.now e, e); text_room_in_bounds = search rules }

pub returns : goal.returns
returns c = let p = c.put_file.ensures in
    record { answer = whole_is c.args.file.now (sym c.in_ok-counts.ensures) p.next; room = front-laid p.next p.text }

pub returns-in_err-counts : goal.returns-in_err-counts
returns-in_err-counts c =
    let a = c.args in
    let e = handed_on _ _ c.from_residual.ensures.1 in
    record {
      answer = e ∙ refused-is a.file.now (sym c.in_err-counts.ensures);
      room = ap (λ w. room_after (file_text a.file.now) w a.room.now) (sym e);
    }

-- `writing_lists::put_next` meets its contract. Assumes nothing.
use mathlib.Core.Path.{sym, ap}
use Rattle.writing_lists.specs.Printed.{apart}
use Rattle.writing_lists.proofs.Sizes.{kept}
use Rattle.lines.proofs.Numbers.{behind}
use Rattle.writing_lists.proofs.put_next.Goals as goal

pub returns : goal.returns
returns c = let d = c.put_signed.ensures in let t = c.put_text-at.ensures in let whole = behind t.next t.text d.next d.text (ap apart (sym (kept c.args.z c.ranges.z))) in record { next = whole.0; text = whole.1 }

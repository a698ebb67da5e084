-- The line is laid at the front of the text, and all of it is written.
use Rattle.std.proofs.Common.{arith}
use Rattle.lines.proofs.Numbers.{numbers-length}
use Rattle.output.proofs.Line.{three}
use Rattle.output.proofs.show_numbers.Goals as goal

pub put_text-c-requires : goal.put_text-c-requires
put_text-c-requires g c =
    let t = c.put_text-a.ensures in
    let n = c.put_numbers-b.ensures in
    omega (arith, t.next, t.text.same, n.next, n.text.same, numbers-length c.args.list.now)

pub returns : goal.returns
returns g c =
    let t = c.put_text-a.ensures in
    let n = c.put_numbers-b.ensures in
    let e = c.put_text-c.ensures in
    rw (three t.text t.next n.text n.next e.text e.next) at c.show.ensures

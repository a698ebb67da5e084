-- A number has at most 21 characters with its space.
use Rattle.std.proofs.Common.{arith}
use Rattle.lines.proofs.Numbers.{spaced-length}
use Rattle.output.proofs.put_two.Goals as goal

pub put_number-requires : goal.put_number-requires
put_number-requires c = omega (arith, c.put_number-a.ensures.next, c.put_number-a.ensures.text.same, spaced-length c.args.x)

pub returns : goal.returns
returns c = omega (arith, c.put_number-a.ensures.next, c.put_number.ensures.next, spaced-length c.args.x, spaced-length c.args.y)

-- The number is laid behind the space.
use Rattle.std.proofs.Common.{refl, arith}
use Rattle.base.proofs.Lay.{laid_more}
use Rattle.lines.specs.Text.{spaced}
use Rattle.lines.proofs.put_number.Goals as goal

pub returns-clause-next : goal.returns-clause-next
unfolding spaced
returns-clause-next c = omega (arith, c.put_decimal.ensures.next, c.put_text-at.ensures.next)

pub returns-clause-text : goal.returns-clause-text
unfolding spaced
returns-clause-text c = laid_more c.put_text-at.ensures.text _ c.put_text-at.ensures.next c.put_decimal.ensures.text refl

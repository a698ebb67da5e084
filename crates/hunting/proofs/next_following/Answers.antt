-- `hunting::next_following` meets its contract. Assumes nothing.
use native.Mathlib.Omega.{arith}
use Rattle.hunting.proofs.Leaping.{leap_some}
use Rattle.hunting.proofs.next_following.Goals as goal

pub returns : goal.returns
returns c =
    let v = c.beyond-v.ensures in
    let r = c.beyond-r.ensures in
    leap_some c.edge_at-one.ensures v c.edge_at-two.ensures c.if-aim-2.false r (omega (arith, c.min.ensures)) (omega (arith, c.min.ensures)) (λ h. grind (arith, c.min.ensures, v.low, r.low)) c.lower.ensures c.lower-2.ensures

-- `reaching::Near::beside` meets its contract. Assumes nothing.
use Rattle.reaching.proofs.Least.{denied, least_stays, least-of}
use Rattle.reaching.proofs.Near.beside.Goals as goal

pub returns-then-not-may_link : goal.returns-then-not-may_link
returns-then-not-may_link c = least_stays (λ v b h. absurd (denied c.may_link.ensures (c.if-not-may_link.true) b.may))

pub returns-then-is_hinted : goal.returns-then-is_hinted
returns-then-is_hinted c = least-of c.facing.ensures (λ v b. b.facet)

pub returns : goal.returns
returns c = least_stays (λ v b h. absurd (denied c.is_hinted.ensures c.if-is_hinted.false b.near.hint))

-- `candidates::meet` meets its contract. Assumes nothing.
use mathlib.Core.Logic.{inl, inr}
use native.Mathlib.Omega.{arith}
use Rattle.candidates.proofs.Meeting.{onward_from, onward_first, onward_second, met_none, met_here}
use Rattle.candidates.proofs.meet.Goals as goal

pub loop-i-init : goal.loop-i-init
loop-i-init c = onward_from c.enter-i.ensures c.enter-j.ensures

pub returns-then-two-j : goal.returns-then-two-j
returns-then-two-j c = met_none c.loop-i.invariant (inr (omega arith))

pub loop-i-preserved-then-w-v : goal.loop-i-preserved-then-w-v
loop-i-preserved-then-w-v c = onward_second c.loop-i.invariant c.requires.0 c.requires.1 c.if-w-v.true

pub returns-then-agree : goal.returns-then-agree
returns-then-agree c = met_here c.loop-i.invariant c.requires.0 c.requires.1 c.agree.ensures (omega arith) c.wide.ensures.0 c.if-agree.true

pub loop-i-preserved : goal.loop-i-preserved
loop-i-preserved c = onward_first c.loop-i.invariant c.requires.0 c.requires.1 c.agree.ensures (λ h. omega (arith, c.if-w-v.false)) c.if-agree.false

pub returns : goal.returns
returns c = met_none c.loop-i.invariant (inl (omega arith))

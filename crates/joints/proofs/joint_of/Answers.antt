-- `joints::joint_of` meets its contract. Assumes nothing.
use mathlib.Core.Path.{ap}
use borrow.Author.Tests.{eq-eqb, ne_eqb}
use Rattle.std.specs.Prelude.{Some}
use Rattle.joints.specs.between.Joints.{joint_of}
use Rattle.joints.proofs.joint_of.Goals as goal

pub returns-then-i-eq4 : goal.returns-then-i-eq4
unfolding joint_of
returns-then-i-eq4 c = rw (← c.lone-i.ensures.0, eq-eqb _ _ c.if-i-eq4.true)

pub returns-then-j-eq4 : goal.returns-then-j-eq4
unfolding joint_of
returns-then-j-eq4 c = rw (← c.lone-i.ensures.0, ← c.lone-j.ensures.0, ne_eqb _ _ c.if-i-eq4.false, eq-eqb _ _ c.if-j-eq4.true)

pub returns : goal.returns
unfolding joint_of
returns c = rw (← c.lone-i.ensures.0, ← c.lone-j.ensures.0, ne_eqb _ _ c.if-i-eq4.false, ne_eqb _ _ c.if-j-eq4.false) (ap Some c.across.ensures)

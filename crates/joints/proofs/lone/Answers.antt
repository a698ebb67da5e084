-- `joints::lone` meets its contract. Assumes nothing.
use Prim.Native.Nat.{◌-◌}
use mathlib.Core.Path.{sym, ◌∙◌, ap}
use mathlib.Core.Bool.{not}
use native.Mathlib.Omega.{arith}
use Rattle.joints.specs.between.Joints.{lone_of}
use Rattle.joints.proofs.Only.{sole-start, sole-past, sole-found, sole-twice, sole-done}
use Rattle.std.proofs.lemmas.Bool.{not_from_false, not_from_true}
use Rattle.joints.proofs.lone.Goals as goal
use Rattle.joints.proofs.lone.Goals.{then-not-tet_has+else-found-lt4, else-not-tet_has}

pub loop-i-init : goal.loop-i-init
loop-i-init c = sole-start

pub tet_has-requires : goal.tet_has-requires
tet_has-requires c = c.requires.1

pub returns-then-found-lt4 : goal.returns-then-found-lt4
unfolding lone_of
returns-then-found-lt4 c = let l = c.loop-i in (sole-twice l.invariant (omega arith) (ap not (sym c.tet_has.ensures) ∙ (not_from_false _ c.if-not-tet_has.true)) (omega arith), omega arith)

pub returns : goal.returns
unfolding lone_of
returns c = (sole-done c.loop-i.invariant (omega arith), c.loop-i.invariant.most)

pub loop-i-preserved : goal.loop-i-preserved
loop-i-preserved c =
    let l = c.loop-i in
    let e = ap not (sym c.tet_has.ensures) in
    elim c.if-not-tet_has.branch [
      | then-not-tet_has+else-found-lt4 w ↦ rw w.found-is (sole-found l.invariant (omega arith) (e ∙ not_from_false _ w.if-not-tet_has.true) (omega (arith, w.if-found-lt4.false)))
      | else-not-tet_has w ↦ rw w.found-is (sole-past l.invariant (omega arith) (e ∙ not_from_true _ w.if-not-tet_has.false))
    ]

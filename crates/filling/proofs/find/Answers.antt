-- `filling::find` meets its contract. Assumes nothing.
use mathlib.Core.Path.{◌≡◌, refl}
use Prim.Native.Nat.{◌/◌}
use lib.ListN.{length}
use native.Mathlib.Omega.{arith}
use Rattle.base.specs.Lists.{keep}
use Rattle.cells.specs.between.Rows.{own_numbers}
use Rattle.filling.proofs.Found.{found_take}
use Rattle.filling.proofs.Nearby.{found-gap, reached-start, reached-from}
use borrow.Author.Rules.{rules}
use Rattle.filling.proofs.find.Goals as goal

pub next_own-i-requires : goal.next_own-i-requires
next_own-i-requires c = record { stamped = c.stamp-m.ensures; aside = (c.crowd_of-w.ensures, rw c.no_places-places.ensures (reached-start _ _ _ 0 8)) }

pub loop-i-init : goal.loop-i-init
unfolding keep
loop-i-init c = let a = c.next_own-i.ensures in (refl, (a.0.le, (a.0.is, (found-gap (record { low = omega arith; found = record { count = refl; list = refl } }) (omega arith) a.0, (search rules, reached-from a.1 (omega arith))))))

pub overflow_cast-i : goal.overflow_cast-i
overflow_cast-i c = omega (arith, c.args.ix.now.indexed.labelled.few)

pub push-found-requires : goal.push-found-requires
push-found-requires c = omega (arith, c.args.ix.now.indexed.labelled.few)

pub overflow_add-i : goal.overflow_add-i
overflow_add-i c = omega (arith, c.args.ix.now.indexed.labelled.few)

pub next_own-i-requires-in-loop-i : goal.next_own-i-requires-in-loop-i
next_own-i-requires-in-loop-i c = record { stamped = c.stamp-m.ensures; aside = (c.crowd_of-w.ensures, reached-from c.loop-i.invariant.1.1.1.1.1 (omega arith)) }

pub loop-i-smaller : goal.loop-i-smaller
loop-i-smaller c = omega (arith, c.next_own-i-in-loop-i.ensures.0.from (omega arith))

pub loop-i-preserved : goal.loop-i-preserved
loop-i-preserved c = let a = c.next_own-i-in-loop-i.ensures in let l = c.loop-i.invariant.1.1 in (refl, (a.0.le, (a.0.is, (found-gap (rw c.push-found.ensures (found_take l.1.0 (l.0 (omega arith)))) (omega arith) a.0, (search rules, reached-from a.1 (a.0.from (omega arith)))))))

pub returns : goal.returns
unfolding own_numbers
returns c = let ls = c.args.ix.now.labels.now in let e : c.loop-i.i ≡ length ls / 4 = omega arith in
    rw e at c.loop-i.invariant.1.1.1.0.found

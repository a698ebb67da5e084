-- `filling::next_own` meets its contract. Assumes nothing.
use mathlib.Core.Path.{refl, sym, ◌∙◌, ap}
use lib.ListN.{length, length-set}
use native.Mathlib.Omega.{arith}
use Rattle.tets_around.proofs.Around.{around-within}
use Rattle.filling.proofs.Nearby.{around-rises, next_start, next_out, next-corner, next-done, reached-put}
use Rattle.filling.proofs.next_own.Goals as goal

pub loop-k-init : goal.loop-k-init
loop-k-init c = (refl, (next_start, c.requires.aside.1))

pub loop-k-preserved-then-is_left_out : goal.loop-k-preserved-then-is_left_out
loop-k-preserved-then-is_left_out c = let l = c.loop-k in (l.invariant.0, (next_out l.invariant.1.0 (sym c.is_left_out.ensures ∙ c.if-is_left_out.true), l.invariant.1.1))

pub least_in-seen-requires : goal.least_in-seen-requires
least_in-seen-requires c = let p = c.requires in let l = c.loop-k in let r = c.around-row.ensures in record { within = (rw r (around-within _ _), rw r (around-rises _ _)); stamped = (p.stamped, rw (r, c.place_of-from.ensures) (l.invariant.1.1.at l.k)) }

pub loop-k-preserved : goal.loop-k-preserved
loop-k-preserved c = let l = c.loop-k in let v = rw c.around-row.ensures at c.least_in-seen.ensures in
    let e = c.put_place.ensures in (ap length e ∙ length-set l.places l.k _ ∙ l.invariant.0, (next-corner l.invariant.1.0 (omega arith) v.0, rw e (reached-put l.invariant.1.1 l.k v.1)))

pub shape_of-places : goal.shape_of-places
shape_of-places c = c.loop-k.invariant.0

pub returns : goal.returns
returns c = let l = c.loop-k.invariant.1 in (next-done c.args.ix.now.labels.now c.args.quads.now c.args.c.now c.requires.aside.0 l.0 (omega arith), l.1)

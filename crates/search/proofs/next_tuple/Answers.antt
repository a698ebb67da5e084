-- `search::next_tuple` meets its contract. Assumes nothing.
use Prim.Native.Nat.{◌-◌}
use mathlib.Core.Path.{◌≡◌, sym, ◌∙◌, ap, subst}
use Rattle.std.specs.Prelude.{is_some, IfSome}
use Rattle.filling.specs.between.Numbered.{Numbered}
use lib.ListN.{length, set}
use Rattle.rule.specs.between.Leaf.{leaf_tets}
use native.Mathlib.Omega.{arith}
use borrow.Author.Rules.{rules}
use Rattle.portions.proofs.Search.{begin, descend, reject, result, carry, nothing}
use Rattle.portions.proofs.Turns.{less_descend, less_reject, less_carry}
use Rattle.search.proofs.Tables.{row-in}
use Rattle.search.proofs.Scanning.{sought_of, drawn_of, of-kind, last_of, laws_of, least_none}
use Rattle.search.proofs.next_tuple.Goals as goal

pub start-d-requires : goal.start-d-requires
start-d-requires c = let q = c.base_of-base.ensures in let h = c.corners_of-k.ensures in let i = row-in c.args.kind (c.corners_of-k.result - 1) (omega (arith, h)) in
    record { sought = sought_of c.args.ground.now.ready; placed = (record { row = omega (arith, q, i); at = i.1 }, omega arith) }

pub offset_bounds-t-d : goal.offset_bounds-t-d
offset_bounds-t-d c = let k = c.corners_of-k.ensures in omega (arith, k, (c.start-d.ensures c.args.kind (last_of c.base_of-base.ensures.0 k.0 (omega (arith, k)))).within)

pub bounds-t-d : goal.bounds-t-d
bounds-t-d c = let k = c.corners_of-k.ensures in omega (arith, k, (c.start-d.ensures c.args.kind (last_of c.base_of-base.ensures.0 k.0 (omega (arith, k)))).within)

pub loop-t-init : goal.loop-t-init
loop-t-init c = let w = laws_of (sought_of c.args.ground.now.ready) c.args.kind c.args.mark c.args.ground.now.mesh.index.labels.now c.args.ground.now.mesh.parts.now in
    let l : length c.args.mark ≡ 8 = search rules in
    let k = c.corners_of-k.ensures in let b = c.start-d.ensures c.args.kind (last_of c.base_of-base.ensures.0 k.0 (omega (arith, k))) in
    rw c.wide-lo.ensures.0 (begin w b.within (omega (arith, k)) (b.last c.args.ground.now.mesh.index.labels.now c.args.ground.now.mesh.parts.now (drawn_of c.args.ground.now.ready)))

pub overflow_add-place : goal.overflow_add-place
overflow_add-place c = omega (arith, c.loop-t.invariant.inside)

pub invariant_of-spot : goal.invariant_of-spot
invariant_of-spot c = let i = row-in c.args.kind c.loop-t.d c.loop-t.invariant.inside in
    record { close = (sought_of c.args.ground.now.ready).close; placed = record { row = omega (arith, c.base_of-base.ensures, i); at = i.1 }; within = omega (arith, c.loop-t.invariant.inside, c.loop-t.invariant.long) }

pub seek-c-requires : goal.seek-c-requires
seek-c-requires c = record { sought = sought_of c.args.ground.now.ready }

pub loop-t-smaller-then-d-k : goal.loop-t-smaller-then-d-k
loop-t-smaller-then-d-k c = let o = c.loop-t in let s = c.seek-c in less_descend c.args.ground.now.near.n c.corners_of-k.result o.t o.d o.lo s.result ((s.ensures c.args.kind c.args.ground.now.mesh.index.labels.now c.args.ground.now.mesh.parts.now (of-kind c.base_of-base.ensures.0 o.invariant.inside) (drawn_of c.args.ground.now.ready)).low (omega arith)) (omega arith) (omega (arith, o.invariant.inside, o.invariant.long)) (omega arith)

pub loop-t-preserved-then-d-k : goal.loop-t-preserved-then-d-k
loop-t-preserved-then-d-k c = let w = laws_of (sought_of c.args.ground.now.ready) c.args.kind c.args.mark c.args.ground.now.mesh.index.labels.now c.args.ground.now.mesh.parts.now in
    descend w c.loop-t.invariant (c.seek-c.ensures c.args.kind c.args.ground.now.mesh.index.labels.now c.args.ground.now.mesh.parts.now (of-kind c.base_of-base.ensures.0 c.loop-t.invariant.inside) (drawn_of c.args.ground.now.ready)) (omega arith) (omega (arith, c.corners_of-k.ensures.0))

pub returns-in-Some : goal.returns-in-Some
returns-in-Some c = let w = laws_of (sought_of c.args.ground.now.ready) c.args.kind c.args.mark c.args.ground.now.mesh.index.labels.now c.args.ground.now.mesh.parts.now in
    let l = c.is_leaf.ensures in
    record {
      least_after = result w c.loop-t.invariant (c.seek-c.ensures c.args.kind c.args.ground.now.mesh.index.labels.now c.args.ground.now.mesh.parts.now (of-kind c.base_of-base.ensures.0 c.loop-t.invariant.inside) (drawn_of c.args.ground.now.ready)) (omega arith) (omega (arith, c.corners_of-k.ensures.0)) (sym l.yes_value ∙ ap is_some c.in-Some.is);
      numbered = subst (λ v. IfSome v (λ f. Numbered (leaf_tets c.args.ground.now.mesh.coords.now c.args.ground.now.mesh.index.labels.now c.args.ground.now.mesh.parts.now c.args.kind (set c.loop-t.t c.loop-t.d c.seek-c.result)) f)) c.in-Some.is l.numbered;
    }

pub overflow_add-lo-else-d-k : goal.overflow_add-lo-else-d-k
overflow_add-lo-else-d-k c = omega (arith, c.args.ground.now.ready.arrays.few)

pub loop-t-smaller-else-d-k : goal.loop-t-smaller-else-d-k
loop-t-smaller-else-d-k c = let o = c.loop-t in let s = c.seek-c in less_reject c.args.ground.now.near.n c.corners_of-k.result o.t o.d o.lo s.result ((s.ensures c.args.kind c.args.ground.now.mesh.index.labels.now c.args.ground.now.mesh.parts.now (of-kind c.base_of-base.ensures.0 o.invariant.inside) (drawn_of c.args.ground.now.ready)).low (omega arith)) (omega arith)

pub loop-t-preserved-else-d-k : goal.loop-t-preserved-else-d-k
loop-t-preserved-else-d-k c = let w = laws_of (sought_of c.args.ground.now.ready) c.args.kind c.args.mark c.args.ground.now.mesh.index.labels.now c.args.ground.now.mesh.parts.now in
    reject w c.loop-t.invariant (c.seek-c.ensures c.args.kind c.args.ground.now.mesh.index.labels.now c.args.ground.now.mesh.parts.now (of-kind c.base_of-base.ensures.0 c.loop-t.invariant.inside) (drawn_of c.args.ground.now.ready)) (omega arith) (omega (arith, c.corners_of-k.ensures.0)) (sym c.is_leaf.ensures.yes_value ∙ ap is_some c.in_default.is)

pub returns-then-d-eq0 : goal.returns-then-d-eq0
returns-then-d-eq0 c = let w = laws_of (sought_of c.args.ground.now.ready) c.args.kind c.args.mark c.args.ground.now.mesh.index.labels.now c.args.ground.now.mesh.parts.now in
    record { least_after = least_none (nothing w c.loop-t.invariant (c.seek-c.ensures c.args.kind c.args.ground.now.mesh.index.labels.now c.args.ground.now.mesh.parts.now (of-kind c.base_of-base.ensures.0 c.loop-t.invariant.inside) (drawn_of c.args.ground.now.ready)) (omega arith) (omega arith)); numbered = tt }

pub loop-t-smaller : goal.loop-t-smaller
loop-t-smaller c = let o = c.loop-t in rw c.wide-lo-else-d-eq0.ensures.0 (less_carry c.args.ground.now.near.n c.corners_of-k.result o.t o.d o.lo (omega arith))

pub loop-t-preserved : goal.loop-t-preserved
loop-t-preserved c = let w = laws_of (sought_of c.args.ground.now.ready) c.args.kind c.args.mark c.args.ground.now.mesh.index.labels.now c.args.ground.now.mesh.parts.now in
    rw c.wide-lo-else-d-eq0.ensures.0 (carry w c.loop-t.invariant (c.seek-c.ensures c.args.kind c.args.ground.now.mesh.index.labels.now c.args.ground.now.mesh.parts.now (of-kind c.base_of-base.ensures.0 c.loop-t.invariant.inside) (drawn_of c.args.ground.now.ready)) (omega arith) (omega arith))

-- `following::next_of` meets its contract. Assumes nothing.
use mathlib.Core.Path.{sym, subst}
use mathlib.Core.List.{[]}
use native.Mathlib.Omega.{arith}
use Rattle.space.specs.Arrays.{mesh_of}
use Rattle.rule.specs.between.Leaf.{cell_at}
use Rattle.filling.specs.between.Numbered.{Numbered}
use Rattle.following.proofs.InTurn.{none_past, of-number, searched-of}
use Rattle.following.proofs.next_of.Goals as goal

pub returns-then-mark-number : goal.returns-then-mark-number
returns-then-mark-number c = none_past (omega (arith, c.if-mark-number.true, c.from-number.ensures))

pub returns-in_err-tuple : goal.returns-in_err-tuple
returns-in_err-tuple c = rw c.from_residual.ensures
    ([], searched-of c.args.kind c.from-number.ensures (λ h. let z : ⊥ = omega (arith, c.if-mark-number.false) in z) c.begin-from.ensures c.in_err-tuple.ensures.least_after)

pub returns : goal.returns
unfolding cell_at
returns c = let x = c.in_ok-tuple in let g = c.args.ground.now.mesh in record {
  tuple = x.field-0.tuple;
  searched = searched-of c.args.kind c.from-number.ensures (λ h. let z : ⊥ = omega (arith, c.if-mark-number.false) in z) c.begin-from.ensures x.ensures.least_after;
  marked = sym c.mark_at.ensures;
  tets = subst (λ t. Numbered (cell_at (mesh_of g.coords.now g.index.labels.now g.parts.now) t x.field-0.tuple).tets x.field-0.tets) (of-number c.args.kind c.from-number.ensures) x.ensures.numbered;
}

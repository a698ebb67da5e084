-- `put_row` meets its contract. Assumes nothing.
use mathlib.Core.Path.{◌≡◌, ◌∙◌, ap}
use Prim.Native.Nat.{◌+◌, ◌-◌, ◌*◌, ◌%◌}
use native.Mathlib.Omega.{arith}
use Rattle.neighbours.specs.Table.{neighbour_row}
use Rattle.matrix.specs.between.Matrix.{is_joined}
use Rattle.neighbours.proofs.Rows.{row-none, row-add, row_room}
use Rattle.neighbours.proofs.Growing.{grown-none, grown-more}
use Rattle.neighbours.proofs.put_row.Goals as goal

pub loop-i-init : goal.loop-i-init
loop-i-init c = let a = c.args in grown-none a.from _ a.rows.now (row-none (is_joined a.m.now) a.u.0)

pub put_block-at-requires : goal.put_block-at-requires
put_block-at-requires c = let a = c.args in let l = c.loop-i in (omega arith, omega (arith, l.invariant.ends, l.invariant.same, row_room (is_joined a.m.now) a.u.0 (16 * l.i) 16 a.n (omega arith)))

pub loop-i-preserved : goal.loop-i-preserved
loop-i-preserved c = let a = c.args in let l = c.loop-i in let f = is_joined a.m.now in
    let e : 16 * (l.i + 1) ≡ 16 * l.i + 16 = omega arith in
    grown-more l.invariant c.put_block-at.ensures (ap (λ k. neighbour_row f k a.u.0) e ∙ row-add f a.u.0 (16 * l.i) 16)

pub put_part-requires : goal.put_part-requires
put_part-requires c = let a = c.args in let l = c.loop-i in let e : a.n - a.n % 16 ≡ 16 * l.i = omega arith in
    (omega arith, rw e (omega (arith, l.invariant.ends, l.invariant.same, row_room (is_joined a.m.now) a.u.0 (16 * l.i) (a.n % 16) a.n (omega arith))))

pub returns : goal.returns
returns c = let a = c.args in let l = c.loop-i in let f = is_joined a.m.now in
    let e : a.n - a.n % 16 ≡ 16 * l.i = omega arith in
    let d : a.n ≡ 16 * l.i + a.n % 16 = omega arith in
    grown-more l.invariant (rw e at c.put_part.ensures) (ap (λ k. neighbour_row f k a.u.0) d ∙ row-add f a.u.0 (16 * l.i) (a.n % 16))

-- `put_rows` meets its contract. Assumes nothing.
use mathlib.Core.Path.{◌≡◌, sym, ◌∙◌, ap}
use mathlib.Core.List.{List, [], ◌∷◌, ◌++◌}
use Prim.Native.Nat.{ℕ, ◌+◌}
use native.Mathlib.Omega.{arith}
use lib.ListN.{length}
use Rattle.neighbours.specs.Table.{neighbour_row, first_rows}
use Rattle.neighbours.specs.between.Grown.{Grown}
use Rattle.matrix.specs.between.Matrix.{is_joined}
use Rattle.neighbours.proofs.Rows.{rows_none, rows_more, rows-up, offs, offs_none, offs_more, offs_all}
use Rattle.neighbours.proofs.Growing.{grown-none, grown-set, grown-more}
use Rattle.neighbours.proofs.put_rows.Goals as goal

-- the next offset is where the rows have come to
offs-next : (r : ℕ → List ℕ) (u : ℕ) {at : ℕ} {old l : List ℕ} → Grown 0 at (first_rows r u) old l → offs r (u + 1) ≡ offs r u ++ at ∷ []
offs-next r u {at} g =
    let e : length (first_rows r u) ≡ at = omega (arith, g.ends) in
    offs_more r u ∙ ap (λ k. offs r u ++ k ∷ []) e

pub loop-u-init : goal.loop-u-init
loop-u-init c = let a = c.args in let r = neighbour_row (is_joined a.m.now) a.n in
    (grown-none 0 _ a.starts.now (offs_none r), grown-none 0 _ a.rows.now (rows_none r))

pub put_row-at-requires : goal.put_row-at-requires
put_row-at-requires c = let l = c.loop-u in (omega arith, omega (arith, l.invariant.1.ends, l.invariant.1.same, rows-up (neighbour_row (is_joined c.args.m.now) c.args.n) l.u, c.requires.1.1 (l.u + 1)))

pub loop-u-preserved : goal.loop-u-preserved
loop-u-preserved c = let a = c.args in let l = c.loop-u in let r = neighbour_row (is_joined a.m.now) a.n in (
  grown-set l.invariant.0 l.at (omega arith) (offs-next r l.u l.invariant.1),
  grown-more l.invariant.1 c.put_row-at.ensures (rows_more r l.u),
)

pub returns-clause-offsets : goal.returns-clause-offsets
returns-clause-offsets c = let a = c.args in let l = c.loop-u in let r = neighbour_row (is_joined a.m.now) a.n in
    let e : l.u ≡ a.n = omega arith in
    let g : Grown 0 a.n (offs r a.n) a.starts.now l.starts = rw e at l.invariant.0 in
    grown-set g l.at (omega arith) (sym (offs_all r a.n) ∙ offs-next r a.n (rw e at l.invariant.1))

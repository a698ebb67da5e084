-- `tets_around::Index::row` meets its contract. Assumes nothing.
use Prim.Native.Nat.{◌+◌}
use native.Mathlib.Omega.{arith}
use Rattle.tets_around.proofs.Around.{start-next, row_here, row-empty}
use mathlib.Core.Path.{refl}
use Rattle.tets_around.proofs.reading.Index.row.Goals as goal

pub overflow_sub-result : goal.overflow_sub-result
overflow_sub-result c = let v = c.args.v.0 in let i = c.args.self.now.indexed.starts in omega (arith, i v (omega arith), i (v + 1) (omega arith), start-next c.args.self.now.labels.now v)

pub returns-then-k-self : goal.returns-then-k-self
returns-then-k-self c = let v = c.args.v.0 in let i = c.args.self.now.indexed.starts in row_here c.args.self.now.indexed v _ (omega arith) (i v (omega arith)) (omega (arith, i v (omega arith), i (v + 1) (omega arith), start-next c.args.self.now.labels.now v))

pub returns-else-k-self : goal.returns-else-k-self
returns-else-k-self c = row-empty c.args.self.now.indexed c.args.v.0 _ (omega arith) (c.args.self.now.indexed.starts c.args.self.now.n (omega arith)) refl

-- `matrix::join` meets its contract. Assumes nothing.
use native.Mathlib.Omega.{arith}
use Rattle.matrix.proofs.Joining.{join_adds}
use Rattle.matrix.proofs.join.Goals as goal

pub returns : goal.returns
returns c = let a = c.args in rw (c.from.ensures, c.from-2.ensures) (join_adds a.m.now a.u.0 a.v.0 (omega arith) (omega (arith, c.told-m)))

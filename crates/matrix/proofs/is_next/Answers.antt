-- `matrix::is_next` meets its contract. Assumes nothing.
use mathlib.Core.Path.{◌≡◌}
use native.Mathlib.Omega.{arith}
use borrow.Author.Tests.{ne_eqb}
use Rattle.matrix.specs.between.Matrix.{is_joined}
use Rattle.matrix.proofs.is_next.Goals as goal

pub returns-then-k-v : goal.returns-then-k-v
unfolding is_joined
returns-then-k-v c = let a = c.args in let n : a.u.0 ≡ a.v → ⊥ = omega (arith, c.if-k-v.true, c.from-k.ensures) in rw (c.from-k.ensures, ne_eqb a.u.0 a.v n)

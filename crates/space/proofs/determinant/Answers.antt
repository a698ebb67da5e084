-- `space::determinant` meets its contract: no step of the cross and of the dot product leaves 64 bits, whichever numbers
-- of the edges it takes, and what comes out is the determinant. Assumes nothing.
use mathlib.Core.Path.{◌∙◌}
use lib.IntN.{ℤ, ◌+ℤ◌, ◌-ℤ◌, ◌*ℤ◌}
use mir.Syntax.{w64}
use mir.Val.{SFits, to_z, of_z}
use Rattle.base.specs.between.Size.{Small}
use Rattle.base.proofs.Signed.{Holds, of-small, back-small, small-fits, add_small, sub_small, mul_small, add_holds, sub_holds, mul_holds}
use Rattle.space.proofs.Det.{cross_dot}
use Rattle.space.proofs.determinant.Goals as goal

-- the number that is handed on: what is read back from the bits of z
abbrev via : ℤ → ℤ
via z = to_z w64 (of_z w64 z)

-- ---- how large the steps are
-- a number of an edge
entry : {a : ℤ} → Small 100000 a → Small 100000 (via a)
entry p = back-small w64 p tt

module _ {a b : ℤ} where
  -- a product of two of them
  product-fits : Small 100000 a → Small 100000 b → SFits w64 (a *ℤ b)
  product-fits p q = small-fits (mul_small p q) tt

  product : Small 100000 a → Small 100000 b → Small 10000000000 (via (a *ℤ b))
  product p q = back-small w64 (mul_small p q) tt

  -- a number of the cross product: at most 20,000,000,000 in size
  number_fits : Small 10000000000 a → Small 10000000000 b → SFits w64 (a -ℤ b)
  number_fits p q = small-fits (sub_small p q) tt

  number : Small 10000000000 a → Small 10000000000 b → Small 20000000000 (via (a -ℤ b))
  number p q = back-small w64 (sub_small p q) tt

  -- its product with a number of the third edge
  term_fits : Small 20000000000 a → Small 100000 b → SFits w64 (a *ℤ b)
  term_fits p q = small-fits (mul_small p q) tt

  term : Small 20000000000 a → Small 100000 b → Small 2000000000000000 (via (a *ℤ b))
  term p q = back-small w64 (mul_small p q) tt

  -- two such products, and the third
  two-fit : Small 2000000000000000 a → Small 2000000000000000 b → SFits w64 (a +ℤ b)
  two-fit p q = small-fits (add_small p q) tt

  two : Small 2000000000000000 a → Small 2000000000000000 b → Small 4000000000000000 (via (a +ℤ b))
  two p q = back-small w64 (add_small p q) tt

  three-fit : Small 4000000000000000 a → Small 2000000000000000 b → SFits w64 (a +ℤ b)
  three-fit p q = small-fits (add_small p q) tt

ruleset steps = (entry, product-fits, product, number_fits, number, term_fits, term, two-fit, two, three-fit)

-- ---- what comes out
module _ {a b c d e : ℤ} (p : Small 100000 a) (q : Small 100000 b) (r : Small 100000 c) (s : Small 100000 d) (t : Small 100000 e) where
  -- a number of the cross product, times one of the third edge
  one_of_three : Holds w64 (of_z w64 (via (via (via a *ℤ via b) -ℤ via (via c *ℤ via d)) *ℤ via e)) 2000000000000000 ((a *ℤ b -ℤ c *ℤ d) *ℤ e)
  one_of_three =
      let ab = mul_holds (of-small p tt) (of-small q tt) tt in
      let cd = mul_holds (of-small r tt) (of-small s tt) tt in
      mul_holds (sub_holds ab cd tt) (of-small t tt) tt

pub overflow_mul-cross_x : goal.overflow_mul-cross_x
overflow_mul-cross_x c = search (steps, c.requires)

pub overflow_mul-cross_x-2 : goal.overflow_mul-cross_x-2
overflow_mul-cross_x-2 c = search (steps, c.requires)

pub overflow_sub-cross_x : goal.overflow_sub-cross_x
overflow_sub-cross_x c = search (steps, c.requires)

pub overflow_mul-cross_y : goal.overflow_mul-cross_y
overflow_mul-cross_y c = search (steps, c.requires)

pub overflow_mul-cross_y-2 : goal.overflow_mul-cross_y-2
overflow_mul-cross_y-2 c = search (steps, c.requires)

pub overflow_sub-cross_y : goal.overflow_sub-cross_y
overflow_sub-cross_y c = search (steps, c.requires)

pub overflow_mul-cross_z : goal.overflow_mul-cross_z
overflow_mul-cross_z c = search (steps, c.requires)

pub overflow_mul-cross_z-2 : goal.overflow_mul-cross_z-2
overflow_mul-cross_z-2 c = search (steps, c.requires)

pub overflow_sub-cross_z : goal.overflow_sub-cross_z
overflow_sub-cross_z c = search (steps, c.requires)

pub overflow_mul-result : goal.overflow_mul-result
overflow_mul-result c = search (steps, c.requires) depth 8

pub overflow_mul-result-2 : goal.overflow_mul-result-2
overflow_mul-result-2 c = search (steps, c.requires) depth 8

pub overflow_add-result : goal.overflow_add-result
overflow_add-result c = search (steps, c.requires) depth 8

pub overflow_mul-result-3 : goal.overflow_mul-result-3
overflow_mul-result-3 c = search (steps, c.requires) depth 8

pub overflow_add-result-2 : goal.overflow_add-result-2
overflow_add-result-2 c = search (steps, c.requires) depth 8

pub returns : goal.returns
returns c = let a = c.requires.0 in let b = c.requires.1.0 in let d = c.requires.1.1 in let x = one_of_three a.y b.z a.z b.y d.x in
    let y = one_of_three a.z b.x a.x b.z d.y in
    let z = one_of_three a.x b.y a.y b.x d.z in
    (add_holds (add_holds x y tt) z tt).says ∙ cross_dot c.args.a c.args.b c.args.c

-- `linking::sole_row` meets its contract. Assumes nothing.
use native.Mathlib.Omega.{arith}
use Rattle.linking.specs.declared.Linking.TheVariants.{None}
use Rattle.linking.proofs.Adding.{only_row_none, only_row_more, only_row_all}
use Rattle.linking.proofs.sole_row.Goals as goal

pub loop-x-init : goal.loop-x-init
loop-x-init c = only_row_none None

pub loop-x-preserved : goal.loop-x-preserved
loop-x-preserved c = only_row_more _ c.loop-x.invariant c.sole_at-s.ensures

pub returns : goal.returns
returns c = only_row_all _ c.loop-x.invariant (omega arith)

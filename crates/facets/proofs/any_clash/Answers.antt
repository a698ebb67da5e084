-- `facets::any_clash` meets its contract. Assumes nothing.
use mathlib.Core.Path.{sym, ◌∙◌, ap}
use native.Mathlib.Omega.{arith}
use Rattle.base.specs.Lists.{any}
use Rattle.base.proofs.Loop.{any_next, any_found, any-done, listed}
use Rattle.facets.proofs.any_clash.Goals as goal

pub does_clash-requires : goal.does_clash-requires
does_clash-requires c = record { close = c.requires.close; m_in_bounds = omega (arith, c.requires.within.below c.loop-m.m-index (omega arith)) }

pub returns-then-does_clash : goal.returns-then-does_clash
returns-then-does_clash c = any_found c.loop-m.invariant (omega arith) (sym c.does_clash.ensures ∙ c.if-does_clash.true) ∙ ap (any _) (listed 0 c.args.row.now)

pub loop-m-preserved : goal.loop-m-preserved
loop-m-preserved c = any_next c.loop-m.invariant (omega arith) (sym c.does_clash.ensures ∙ c.if-does_clash.false)

pub returns : goal.returns
returns c = any-done c.loop-m.invariant (omega arith) ∙ ap (any _) (listed 0 c.args.row.now)

-- `facets::any_crowded` meets its contract. Assumes nothing.
use Rattle.tets.proofs.Tests.{any-up}
use mathlib.Core.Path.{sym, ◌∙◌}
use Prim.Native.Nat.{◌/◌}
use native.Mathlib.Omega.{arith}
use lib.ListN.{length}
use Rattle.base.proofs.Loop.{any_next, any_found, any-done}
use Rattle.facets.specs.Facets.{crowded}
use Rattle.facets.proofs.any_crowded.Goals as goal

pub overflow_cast-j : goal.overflow_cast-j
overflow_cast-j c = omega (arith, c.args.ix.now.indexed.labelled.few)

pub is_crowded-requires : goal.is_crowded-requires
is_crowded-requires c = let p = c.requires in record { pairs_of = p.pairs_of; e_in_bounds = omega arith }

pub returns-then-is_crowded : goal.returns-then-is_crowded
returns-then-is_crowded c = let s = c.args in any_found c.loop-j.invariant (omega arith) (sym c.is_crowded.ensures ∙ c.if-is_crowded.true) ∙ any-up (crowded s.ix.now.labels.now) (length s.ix.now.labels.now / 4)

pub loop-j-preserved : goal.loop-j-preserved
loop-j-preserved c = any_next c.loop-j.invariant (omega arith) (sym c.is_crowded.ensures ∙ c.if-is_crowded.false)

pub returns : goal.returns
returns c = let s = c.args in any-done c.loop-j.invariant (omega arith) ∙ any-up (crowded s.ix.now.labels.now) (length s.ix.now.labels.now / 4)

-- `facets::any_folded` meets its contract. Assumes nothing.
use mathlib.Core.Path.{sym, ◌∙◌}
use Prim.Native.Nat.{◌/◌}
use native.Mathlib.Omega.{arith}
use lib.ListN.{length}
use Rattle.base.proofs.Loop.{any_next, any_found, any-done}
use Rattle.facets.specs.Facets.{folded}
use Rattle.tets.proofs.Tests.{any-up}
use Rattle.facets.proofs.any_folded.Goals as goal

pub overflow_cast-j : goal.overflow_cast-j
overflow_cast-j c = omega (arith, c.args.ix.now.indexed.labelled.few)

pub is_folded-requires : goal.is_folded-requires
is_folded-requires c = let p = c.requires in record { close = p.close; pairs_of = p.pairs_of; e_in_bounds = omega arith }

pub returns-then-is_folded : goal.returns-then-is_folded
returns-then-is_folded c = let s = c.args in any_found c.loop-j.invariant (omega arith) (sym c.is_folded.ensures ∙ c.if-is_folded.true) ∙ any-up (folded s.coords.now s.ix.now.labels.now) (length s.ix.now.labels.now / 4)

pub loop-j-preserved : goal.loop-j-preserved
loop-j-preserved c = any_next c.loop-j.invariant (omega arith) (sym c.is_folded.ensures ∙ c.if-is_folded.false)

pub returns : goal.returns
returns c = let s = c.args in any-done c.loop-j.invariant (omega arith) ∙ any-up (folded s.coords.now s.ix.now.labels.now) (length s.ix.now.labels.now / 4)

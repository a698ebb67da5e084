-- `facets::clashes_named` meets its contract. Assumes nothing.
use native.Mathlib.Omega.{arith}
use Rattle.facets.proofs.Pairing.{tries_none, tries_one}
use Rattle.facets.proofs.clashes_named.Goals as goal

pub returns-then-x-eq0 : goal.returns-then-x-eq0
returns-then-x-eq0 c = tries_none (λ m h f. omega arith)

pub returns-then-t-m : goal.returns-then-t-m
returns-then-t-m c = tries_none (λ m h f. omega arith)

pub returns : goal.returns
returns c = tries_one (omega arith) (omega arith) c.does_clash.ensures

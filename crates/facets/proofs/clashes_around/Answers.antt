-- `facets::clashes_around` meets its contract. Assumes nothing.
use mathlib.Core.Path.{◌∙◌}
use Rattle.tets_around.proofs.Around.{row-within}
use Rattle.facets.proofs.Tests.{clash_around}
use Rattle.facets.proofs.clashes_around.Goals as goal

pub any_clash-requires : goal.any_clash-requires
any_clash-requires c = record { close = c.requires.close; within = row-within _ _ c.around.ensures }

pub returns : goal.returns
returns c = let s = c.args in c.any_clash.ensures ∙ rw (c.around.ensures, c.rarest-x.ensures) (clash_around s.coords.now s.ix.now.labels.now s.f.e.0 s.f.u.0 s.f.a.0 s.f.b.0 s.f.c.0)

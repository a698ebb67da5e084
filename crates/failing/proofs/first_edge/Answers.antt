-- `failing::first_edge` meets its contract. Assumes nothing.
use mathlib.Core.Path.{◌∙◌, ap₂}
use lib.ListN.{take, length-take}
use native.Mathlib.Omega.{arith}
use Rattle.templates.specs.Tables.{template_of, tuple_of, at}
use Rattle.reasons.specs.First.{first_fail}
use Rattle.failing.proofs.Short.{short, fits}
use Rattle.tets_around.specs.Sharing.{together_in}
use Rattle.failing.proofs.first_edge.Goals as goal

pub slice_bounds-edge_in-end : goal.slice_bounds-edge_in-end
slice_bounds-edge_in-end c = simp length-take (omega arith)

pub returns : goal.returns
returns c = let a = c.args in let w = c.tables_of-tables.ensures in
    c.edge_in.ensures ∙ ap₂ (λ k rows. first_fail (λ ks. together_in a.ix.now.labels.now (at (take k a.tuple.now) ks)) rows) w.tables.corners w.edges

pub overflow_cast-result : goal.overflow_cast-result
overflow_cast-result c = let a = c.args in let h = fits (λ ks. together_in a.ix.now.labels.now (at (tuple_of a.kind a.tuple.now) ks)) (template_of a.kind).edges (returns c) (short a.kind).edges in
    omega arith

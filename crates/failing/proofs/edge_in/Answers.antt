-- `failing::edge_in` meets its contract. Assumes nothing.
use Rattle.std.proofs.Common.{rules, ◌∙◌, sym, ◌/◌, length}
use Rattle.base.specs.Lists.{up_to}
use Rattle.std.specs.Prelude.{List, ℕ, Bool}
use Rattle.tets_around.specs.Sharing.{together_in}
use Rattle.templates.specs.Tables.{at}
use Rattle.templates.specs.between.Flat.{pair_at}
use Rattle.reasons.proofs.First.{fail_map}
use Rattle.failing.proofs.edge_in.Goals as goal

pub returns : goal.returns
returns c =
    let a = c.args in
    let q = (let p : List ℕ → Bool = λ ks. together_in a.ix.now.labels.now (at a.c.now ks) in p) in
    c.first_fail.ensures (λ i. q (pair_at a.rows.now i)) (λ i b low said. search rules) ∙ sym (fail_map q (pair_at a.rows.now) (up_to (length a.rows.now / 2)))

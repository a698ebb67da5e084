-- `following::mark_at` meets its contract. Assumes nothing.
use mathlib.Core.Path.{◌≡◌, ◌∙◌, ap, ap₂}
use mathlib.Core.List.{◌∷◌}
use lib.ListN.{length}
use Rattle.base.specs.Lists.{pad}
use Rattle.templates.specs.Tables.{at}
use Rattle.order.proofs.Fronts.{eight-all}
use Rattle.following.proofs.InTurn.{of-number}
use borrow.Author.Rules.{rules}
use Rattle.following.proofs.mark_at.Goals as goal

pub returns : goal.returns
returns c = let l = c.letters-c in let e : length l.result ≡ 8 = search rules in
    let n = c.from-kind.ensures in
    ap₂ (λ k xs. k ∷ xs) n (eight-all l.result e ∙ l.ensures ∙ ap (λ t. pad 8 0 (at c.args.t t.places)) (of-number c.args.kind n))

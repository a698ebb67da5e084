-- `turning::least_of` meets its contract. Assumes nothing.
use mathlib.Core.Path.{◌≡◌, sym, ◌∙◌, ap, ap₂}
use lib.ListN.{take}
use Rattle.templates.specs.Kinds.{template}
use Rattle.templates.proofs.Numbered.{some-named, none-named}
use Rattle.turning.specs.Form.{form_by, least_form}
use Rattle.turning.proofs.least_of.Goals as goal

pub returns-in_err-kind : goal.returns-in_err-kind
unfolding least_form
returns-in_err-kind c = rw (none-named c.args.kind (sym c.named.ensures ∙ c.in_err-kind.was)) c.from_residual.ensures

pub returns : goal.returns
unfolding least_form
returns c = let k = some-named c.args.kind (sym c.named.ensures ∙ c.in_ok-kind.was) in let vs = c.args.corners.now in let t = template c.in_ok-kind.kind in
    rw k.0 (c.least_by.ensures ∙ ap (λ n. form_by t.turns t.less (take n vs)) c.corners.ensures.0 ∙ ap (λ t. form_by t.turns t.less (take t.corners vs)) k.1)

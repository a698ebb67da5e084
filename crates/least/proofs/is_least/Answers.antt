-- `least::is_least` meets its contract. Assumes nothing.
use mathlib.Core.Path.{◌≡◌, ◌∙◌, ap, ap₂}
use lib.ListN.{take}
use Rattle.templates.specs.Tables.{template_of}
use Rattle.templates.specs.Kinds.{template}
use Rattle.templates.proofs.Numbered.{template-of}
use Rattle.least.specs.Least.{rises_at, is_least}
use Rattle.least.proofs.is_least.Goals as goal

pub returns : goal.returns
unfolding is_least
returns c =
    let t : template c.from-kind.result ≡ template_of c.args.kind = ap template c.from-kind.ensures ∙ template-of c.args.kind in
    c.all_rise.ensures
    ∙ ap₂ rises_at (c.less_of.ensures ∙ ap (λ k. k.less) t) (ap (λ k. take k c.args.corners.now) (c.corners.ensures.0 ∙ ap (λ k. k.corners) t))

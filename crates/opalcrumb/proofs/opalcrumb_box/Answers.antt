-- `opalcrumb::opalcrumb_box` meets its contract. Assumes nothing.
use mathlib.Core.Path.{◌≡◌, sym, ap, ◌∙◌}
use Rattle.space.specs.declared.Point.{Point}
use lib.IntN.{ℤ}
use Rattle.std.specs.Prelude.{Option}
use Rattle.space.specs.Box.{boxed, box_number}
use Rattle.opalcrumb.specs.Boundary.{box_left}
use Rattle.opalcrumb.proofs.opalcrumb_box.Goals as goal

-- the box of four points that are what they were made of
joined : {o : Option ℤ} {a b c d a' b' c' d' : Point} → a ≡ a' → b ≡ b' → c ≡ c' → d ≡ d' → o ≡ boxed a b c d → o ≡ boxed a' b' c' d'
joined p q r s e = rw (p, q, r, s) at e

pub returns-in-None : goal.returns-in-None
returns-in-None c = let e = joined c.point_of.ensures c.point_of-2.ensures c.point_of-3.ensures c.point_of-4.ensures c.box_product-answer.ensures in
    let v = sym c.in-None.is ∙ e in
    record { answer = ap box_number v; value = ap (λ o. box_left o c.args.value.now) v }

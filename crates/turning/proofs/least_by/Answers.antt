-- `turning::least_by` meets its contract. Assumes nothing.
use Prim.Native.Nat.{◌/◌}
use mathlib.Core.Path.{sym, ◌∙◌, ap, ap₂}
use lib.ListN.{length}
use Rattle.std.proofs.Math.Nat.{mul-div-le}
use Rattle.templates.specs.between.Flat.{table_rows, pairs}
use Rattle.std.specs.Prelude.{Some}
use Rattle.turning.specs.Form.{form_of, form_by, least_by}
use Rattle.turning.proofs.Last.{least-eight}
use Rattle.turning.proofs.least_by.Goals as goal

pub returns-then-not-all_distinct : goal.returns-then-not-all_distinct
unfolding form_by
returns-then-not-all_distinct c = rw (sym c.all_distinct.ensures ∙ c.if-not-all_distinct.true)

pub least_turn-requires : goal.least_turn-requires
least_turn-requires c = mul-div-le (length c.turns_of-turns.result.now) c.corners-k.result

pub returns : goal.returns
unfolding form_by
returns c = let v = c.args.c.now in let k = c.corners-k.result in let turns = c.turns_of-turns.result.now in let ps = pairs c.less_of.result.now in
    rw (sym c.all_distinct.ensures ∙ c.if-not-all_distinct.false)
    (ap Some (c.least_turn.ensures ∙ least-eight v k (length turns / k) turns ps c.corners-k.ensures.1.1)
    ∙ ap₂ (λ rows ps. form_of (least_by rows ps v)) (ap (λ k. table_rows k (length turns / k) turns) c.corners-k.ensures.0 ∙ c.turns_of-turns.ensures) c.less_of.ensures)

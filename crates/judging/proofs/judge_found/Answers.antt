-- `judging::judge_found` meets its contract. Assumes nothing.
use mathlib.Core.Path.{◌∙◌, ap}
use native.Mathlib.Omega.{arith}
use Rattle.cells.specs.between.Rows.{fours}
use Rattle.filling.proofs.Found.{found_all}
use Rattle.judging.specs.between.Last.{last_with}
use Rattle.judging.proofs.Numbers.{listed-within}
use Rattle.judging.proofs.judge_found.Goals as goal

pub judge_list-requires-clause-within : goal.judge_list-requires-clause-within
judge_list-requires-clause-within c =
    listed-within c.args.labels.now c.args.parts.now (fours c.args.quads.now) c.args.c.now
    (found_all c.requires.numbered (omega arith)) c.requires.labels_len_bound.1

pub returns : goal.returns
returns c =
    c.judge_list.ensures ∙ ap (λ xs. last_with c.args.labels.now c.args.parts.now xs c.args.c.now c.args.triangles.now c.args.quads.now c.args.within.now) (found_all c.requires.numbered (omega arith))

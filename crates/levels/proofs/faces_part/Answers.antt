-- `levels::faces_part` meets its contract. Assumes nothing.
use mathlib.Core.Path.{◌∙◌, ap₂}
use Prim.Native.Nat.{◌-◌}
use lib.ListN.{take, drop}
use Rattle.cells.specs.between.Rows.{threes, fours}
use Rattle.facet_hints.specs.between.Hints.{faces_hinted}
use Rattle.levels.specs.between.Levels.{part}
use Rattle.levels.proofs.faces_part.Goals as goal

pub returns : goal.returns
returns c = let a = c.args in c.faces_hinted.ensures
    ∙ ap₂ (λ f e. faces_hinted a.hints.now a.s.now (threes (take (e - f) (drop f a.rows.now))) (fours (take (c.entry_of-high.result - c.entry_of-low.result) (drop c.entry_of-low.result a.rows.now)))) c.entry_of-from.ensures c.entry_of-end.ensures
    ∙ ap₂ (λ f e. faces_hinted a.hints.now a.s.now (threes (part a.rows.now a.triangles.now a.x)) (fours (take (e - f) (drop f a.rows.now)))) c.entry_of-low.ensures c.entry_of-high.ensures

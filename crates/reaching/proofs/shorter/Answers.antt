-- `reaching::shorter` meets its contract. Assumes nothing.
use mathlib.Core.Path.{◌∙◌}
use mathlib.Core.Logic.{inl, inr, ⊎_elim}
use Rattle.reaching.specs.between.Reaching.{Chosen}
use Rattle.reaching.proofs.Entries.{chosen_inside}
use Rattle.reaching.proofs.shorter.Goals as goal

pub returns : goal.returns
returns c =
    let w : Chosen _ _ _ _ _ = record { is = ⊎_elim (λ e. inl (e ∙ c.neighbour_row-r.ensures)) (λ e. inr (e ∙ c.neighbour_row-q.ensures)) c.fewer.ensures } in
    record { chosen = w; inside = chosen_inside w c.requires }

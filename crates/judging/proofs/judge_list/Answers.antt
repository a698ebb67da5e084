-- `judging::judge_list` meets its contract. Assumes nothing.
use mathlib.Core.Path.{sym, ◌∙◌}
use native.Mathlib.Omega.{arith}
use Rattle.judging.specs.between.Last.{last_with}
use Rattle.judging.proofs.judge_list.Goals as goal

pub whole_as_front-is_filled : goal.whole_as_front-is_filled
whole_as_front-is_filled g c = omega arith

pub returns-then-not-is_filled : goal.returns-then-not-is_filled
unfolding last_with
returns-then-not-is_filled g c = sym (rw (sym c.is_filled.ensures ∙ c.if-not-is_filled.true))

pub returns-then-not-is_one_part : goal.returns-then-not-is_one_part
unfolding last_with
returns-then-not-is_one_part g c = sym (rw (sym c.is_filled.ensures ∙ c.if-not-is_filled.false, sym c.is_one_part.ensures ∙ c.if-not-is_one_part.true))

pub returns : goal.returns
unfolding last_with
returns g c = sym (rw (sym c.is_filled.ensures ∙ c.if-not-is_filled.false, sym c.is_one_part.ensures ∙ c.if-not-is_one_part.false))

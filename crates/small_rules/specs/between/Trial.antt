-- The trial's rule: numbers below n that leave 1 over 3; records of two entries; 40 is too long.
-- Assumes nothing.
use Rattle.std.specs.Prelude.{ℕ, ◌%◌, Bool, not, List, [], ◌∷◌, eqb, Result, Ok, Err}
use Rattle.base.specs.Lists.{keep, up_to}
use Rattle.portions.specs.Portions.{Rule, Answer, refused, given}
use Rattle.small_rules.specs.declared.Records.{Records}
use Rattle.small_rules.specs.declared.Refusal.{Refusal}
use Rattle.small_rules.specs.declared.Refusal.TheVariants.{NoRoom, TooLong}

abbrev pub trial_rule : Rule ℕ
trial_rule = record {
  mark = λ c. c ∷ [];
  key = λ k. k;
  start = 0 ∷ [];
  end = 65535 ∷ [];
  size = 2;
  entries = λ c. c ∷ 7 ∷ [];
  fits = λ c. not (eqb c 40);
}

abbrev pub is_trial : ℕ → Bool
is_trial c = eqb (c % 3) 1

unfoldable pub trials : ℕ → List ℕ
trials n = keep is_trial (up_to n)

-- what a reply says, by its number and values
abbrev pub reply_says : Result Records Refusal → Answer
reply_says (Ok p) = given p.count p.none_remain (p.mark ∷ [])
reply_says (Err NoRoom) = refused 11
reply_says (Err TooLong) = refused 12

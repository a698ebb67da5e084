-- Least form: of a tuple's turns, the one that is listed.
-- Assumes nothing.
use Rattle.std.specs.Prelude.{ℕ, Bool, List, ltb, get_or}
use Rattle.base.specs.Lists.{all}
use Rattle.templates.specs.Tables.{Template, at}

-- the first is less than the second
unfoldable pub first_is_less : List ℕ → Bool
first_is_less vs = ltb (get_or vs 0 0) (get_or vs 1 0)

-- of each of these pairs of corners the first is less
unfoldable pub rises_at : List (List ℕ) → List ℕ → Bool
rises_at ps c = all (λ p. first_is_less (at c p)) ps

-- kind 8: a the least of all, b less than d and e; kind 6: a the least of all; kind 5: a the least of a, b, c, d
unfoldable pub is_least : Template → List ℕ → Bool
is_least t c = rises_at t.less c

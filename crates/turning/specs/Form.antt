-- What is answered for the least form of a tuple: the turn that is in it, or refusal 13.
-- Assumes nothing.
use Rattle.std.specs.Prelude.{ℕ, cond, List, [], ◌∷◌, map, get_or, take, Option, None, Some}
use Rattle.base.specs.Lists.{keep, distinct, last_or}
use Rattle.templates.specs.Tables.{template_of, is_kind, at}
use Rattle.least.specs.Least.{rises_at}

-- the turn of c, by one of these rows, that rises at these pairs
unfoldable pub least_by : List (List ℕ) → List (List ℕ) → List ℕ → List ℕ
least_by rows ps c = last_or [] (keep (rises_at ps) (map (at c) rows))

-- eight numbers, 0 where the tuple has none
abbrev pub form_of : List ℕ → Option (List ℕ)
form_of xs =
    Some (get_or xs 0 0 ∷ get_or xs 1 0 ∷ get_or xs 2 0 ∷ get_or xs 3 0 ∷ get_or xs 4 0 ∷ get_or xs 5 0 ∷ get_or xs 6 0 ∷ get_or xs 7 0 ∷ [])

-- what is answered for a tuple c: a refusal where two corners are one
unfoldable pub form_by : List (List ℕ) → List (List ℕ) → List ℕ → Option (List ℕ)
form_by rows ps c = cond (distinct c) (form_of (least_by rows ps c)) None

-- what is answered for a kind and eight numbers, of which the first count, as many as the kind has corners
unfoldable pub least_form : ℕ → List ℕ → Option (List ℕ)
least_form k vs =
    let t = template_of k in cond (is_kind k) (form_by t.turns t.less (take t.corners vs)) None

-- the number of that answer's refusal, and 0 for a form
abbrev pub least_number : Option (List ℕ) → ℕ
least_number (Some xs) = 0
least_number None = 13

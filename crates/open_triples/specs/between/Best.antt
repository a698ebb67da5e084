-- Where condition 5 fails, as the code finds it: by a mesh's labels, and the least triple one after the other.
-- Assumes nothing.
use Rattle.std.specs.Prelude.{ℕ, cond, List, [], ◌∷◌, Option, None, Some}
use Rattle.space.specs.Arrays.{row4}
use Rattle.templates.specs.Tables.{at}
use Rattle.cells.specs.Cells.{paired, sides_of}
use Rattle.cells.specs.between.Rows.{own_numbers}
use Rattle.reasons.specs.declared.Finding.{Finding}
use Rattle.reasons.specs.Reason.{faces_by, others, rising, lesser_of, found_open}
use Rattle.open_triples.specs.declared.Triple.{Triple}

-- the vertices of a triple; of the best so far, where there is one
abbrev pub told : Triple → List ℕ
told x = x.u ∷ x.v ∷ x.w ∷ []

abbrev pub held : Option Triple → List ℕ
held None = []
held (Some x) = told x

-- the lesser of what is held and of one triple of places of x, where it offends
unfoldable pub offered : (List ℕ → ℕ) → List ℕ → List ℕ → List ℕ → List ℕ
offered g x b ks = cond (paired g ks) b (lesser_of b (rising (at x ks)))

-- g put to use at each element in turn
abbrev pub steps : {A : Type 0} → (List ℕ → A → List ℕ) → List ℕ → List A → List ℕ
steps g b [] = b
steps g b (x ∷ xs) = steps g (g b x) xs

-- what is found, where ts are the triangles, qs the quadrilaterals and ws the triples on no face
abbrev pub open_by : List ℕ → List ℕ → List (List ℕ) → List (List ℕ) → List (List ℕ) → Finding
open_by ls c ts qs ws =
    let g = sides_of (row4 ls) (own_numbers ls qs c) c in
    found_open g c (faces_by ts qs) (others g ws qs)

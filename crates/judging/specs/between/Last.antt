-- The first failing of conditions 5 and 6.
-- Assumes nothing.
use Rattle.std.specs.Prelude.{ℕ, Bool, cond, List, get_or, Result, Ok, Err}
use Rattle.cells.specs.Cells.{all_agree}
use Rattle.cells.specs.between.Rows.{own_numbers_by, fills_with}
use Rattle.judging.specs.declared.Condition.{Condition}
use Rattle.judging.specs.declared.Condition.TheVariants.{Corners, Edges, Faces, Boxes, Filled, OnePart}

-- the first of conditions 5 and 6 that fails, 0 where neither does
abbrev pub last_of : Bool → Bool → ℕ
last_of filled one = cond filled (cond one 0 6) 5

-- the same of a tuple with the tetrahedra xs, where ts are the triangles,
-- qs the quadrilaterals and ws the triples on no face; and with its own
unfoldable pub last_with : List ℕ → List ℕ → List ℕ → List ℕ → List ℕ → List ℕ → List ℕ → ℕ
last_with ls ps xs c ts qs ws =
    last_of (fills_with ls xs c ts qs ws) (all_agree (λ i. get_or ps i 0) xs)

abbrev pub last_failing : List ℕ → List ℕ → List ℕ → List ℕ → List ℕ → List ℕ → ℕ
last_failing ls ps c ts qs ws = last_with ls ps (own_numbers_by ls qs c) c ts qs ws

-- a condition by its number, and what a test of them tells: the first that fails, 0 where none does
abbrev pub number : Condition → ℕ
number Corners = 1
number Edges = 2
number Faces = 3
number Boxes = 4
number Filled = 5
number OnePart = 6

abbrev pub condition_no : {A : Type 0} → Result A Condition → ℕ
condition_no (Ok x) = 0
condition_no (Err k) = number k

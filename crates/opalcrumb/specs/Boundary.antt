-- What the functions of the boundary leave in what they are lent.
-- Assumes nothing.
use Rattle.std.specs.Prelude.{ℕ, ◌%◌, ◌≡◌, cond, List, [], ◌∷◌, eqb, ℤ, pos, get_or, Option, Some, None, Result, Ok, Err}
use Rattle.refusals.specs.declared.Refusal.{Refusal}
use Rattle.refusals.specs.Named.{number_of}
use Rattle.space.specs.declared.Point.{Point}
use Rattle.space.specs.Box.{boxed}
use Rattle.record.specs.Marks.{mark_of, nine}
use Rattle.records.specs.Marks.{Answer, answer_number}
use Rattle.portioning.specs.Portion.{Portioned}

-- the length of the file that was written, or what stood there
abbrev pub length_left : Result ℕ Refusal → ℕ → ℕ
length_left (Ok k) old = k
length_left (Err r) old = old

-- the point of three numbers
abbrev pub point_of : List ℤ → Point
point_of zs = record { x = get_or zs 0 (pos 0); y = get_or zs 1 (pos 0); z = get_or zs 2 (pos 0) }

-- what is answered for the box of four points, three numbers each
abbrev pub boxed_by : List ℤ → List ℤ → List ℤ → List ℤ → Option ℤ
boxed_by p q r s = boxed (point_of p) (point_of q) (point_of r) (point_of s)

-- the box, or what stood there
abbrev pub box_left : Option ℤ → ℤ → ℤ
box_left (Some b) old = b
box_left None old = old

-- the least form, or what stood there
abbrev pub least_left : Option (List ℕ) → List ℕ → List ℕ
least_left (Some xs) old = xs
least_left None old = old

-- ---- a portion: what an answer leaves in the places lent for the mark, the count and the end

-- the next mark, or the mark as it was
abbrev pub mark_left : Answer → List ℕ → List ℕ
mark_left (Err x) old = old
mark_left (Ok g) old = mark_of g.mark

-- how many records were written, at 32 bits, which no room that a machine has goes beyond;
-- on refusals 1 to 11 as it was
abbrev pub count_left : Answer → ℕ → ℕ
count_left (Err x) old = cond (eqb (number_of x.refusal) 12) (x.written % 4294967296) old
count_left (Ok g) old = g.count % 4294967296

-- 1 where none remain, else 0; on a refusal as it was
abbrev pub end_left : Answer → ℕ → ℕ
end_left (Err x) old = old
end_left (Ok g) old = cond g.none_remain 1 0

-- what a call promises of a file f: it is `listing::portion`'s answer that is handed out,
-- and that function's table and room
pub record Passed (f mark table room : List ℕ) (count end number : ℕ) (mark' table' room' : List ℕ) (count' end' : ℕ) : Type 0 where
  pub answer : Answer
  pub portioned : Portioned f (nine mark) table room answer table' room'
  pub number_is : number ≡ answer_number answer
  pub mark-is : mark' ≡ mark_left answer mark
  pub count-is : count' ≡ count_left answer count
  pub end_is : end' ≡ end_left answer end

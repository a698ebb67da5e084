-- How long the text of a file can be. A coordinate in bounds has at most six characters, a vertex number of a file
-- three, a part five, and behind each stands a space or a line end.
-- Assumes nothing.
use Rattle.std.specs.Prelude.{ℕ, ◌+◌, ◌*◌, ◌/◌, ◌≤◌, ◌<◌, ◌≡◌, List, ℤ, length, get_or}
use Rattle.space.specs.between.Working.{Close}

-- the line of a vertex, and that of a tetrahedron
abbrev pub vertex_most : ℕ
vertex_most = 21

abbrev pub tet_most : ℕ
tet_most = 22

-- what is asked for before a line of two, of three and of five numbers is put: place for any numbers
abbrev pub count_place : ℕ
count_place = 45

abbrev pub vertex_place : ℕ
vertex_place = 67

abbrev pub tet_place : ℕ
tet_place = 111

-- of n vertices and t tetrahedra
abbrev pub text_most : ℕ → ℕ → ℕ
text_most n t = count_place + vertex_most * n + tet_most * t + tet_place

-- the room in which the text of every accepted file has place
abbrev pub text_room : ℕ
text_room = 65536

-- vertex numbers of at most three digits
pub record ThreeDigits (ls : List ℕ) : Type 0 where
  pub few : (i : ℕ) → get_or ls i 0 < 1000

-- lists that fit each other, and their text a room of so many bytes
pub record TextFits (cs : List ℤ) (ls ps : List ℕ) (room : ℕ) : Type 0 where
  pub fours : length ls ≡ 4 * length ps
  pub fits : text_most (length cs / 3) (length ps) ≤ room
  pub close : Close cs
  pub few : ThreeDigits ls

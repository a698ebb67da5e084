-- The meshes worked by hand, in one table of questions and answers under one claim: their full lists and tuples that
-- fail; least forms; from the bytes of their files the check's answer, calls of `portion`, boxes and why tuples are not
-- cells; and from lists their files.
-- Assumes nothing.
use Rattle.std.specs.Prelude.{ℕ, true, false, List, [], ◌∷◌, ◌++◌, ℤ, pos, negsuc, length, take, replicate, None, Some, Ok, Err}
use Rattle.refusals.specs.Named.{named}
use Rattle.arrays.specs.Refusals.{accepted as counted_as}
use Rattle.templates.specs.Tables.{hexahedron, pyramid}
use Rattle.cells.specs.Full.{cell}
use Rattle.portions.specs.Portions.{Answer, refused, given, records}
use Rattle.rule.specs.Rule.{tet_rule}
use Rattle.worked.specs.Files.{header, vertex, joins, file, minus, tent, cube, fan, lone, file_p, file_c, mixed, turned}
use Rattle.worked.specs.Lists.{coords_p, numbers_p, coords_c, numbers_c, coords_fan, still, noughts}
use Rattle.worked.specs.Meshes.{mesh_p, mesh_p', mesh_c, mesh_c', cell_c, list_p, list_p', list_c}
use Rattle.worked.specs.Questions.{listing, counting, sharing, listing_kind, judging, least, checking, calling, boxing, packing, listed, counted, judged, formed, told, left, boxed, packed_to, Row, row, RowsHold}
use Rattle.worked.specs.Asked.{asked}

-- ---- the files' neighbour tables

abbrev pub table_p : List ℕ
table_p =
    (0 ∷ 4 ∷ 7 ∷ 11 ∷ 14 ∷ 18 ∷ []) ++
    (1 ∷ 2 ∷ 3 ∷ 4 ∷ []) ++ (0 ∷ 2 ∷ 4 ∷ []) ++ (0 ∷ 1 ∷ 3 ∷ 4 ∷ []) ++ (0 ∷ 2 ∷ 4 ∷ []) ++ (0 ∷ 1 ∷ 2 ∷ 3 ∷ [])

abbrev pub table_c : List ℕ
table_c =
    (0 ∷ 6 ∷ 9 ∷ 15 ∷ 18 ∷ 21 ∷ 27 ∷ 30 ∷ 36 ∷ []) ++
    (1 ∷ 2 ∷ 3 ∷ 4 ∷ 5 ∷ 7 ∷ []) ++ (0 ∷ 2 ∷ 5 ∷ []) ++ (0 ∷ 1 ∷ 3 ∷ 5 ∷ 6 ∷ 7 ∷ []) ++ (0 ∷ 2 ∷ 7 ∷ []) ++
    (0 ∷ 5 ∷ 7 ∷ []) ++ (0 ∷ 1 ∷ 2 ∷ 4 ∷ 6 ∷ 7 ∷ []) ++ (2 ∷ 5 ∷ 7 ∷ []) ++ (0 ∷ 2 ∷ 3 ∷ 4 ∷ 5 ∷ 6 ∷ [])

-- ---- marks and records

abbrev pub mark : ℕ → ℕ → ℕ → ℕ → ℕ → ℕ → ℕ → ℕ → ℕ → List ℕ
mark k a b c d e f g h = k ∷ a ∷ b ∷ c ∷ d ∷ e ∷ f ∷ g ∷ h ∷ []

abbrev pub start_of : List ℕ
start_of = mark 65535 0 0 0 0 0 0 0 0

abbrev pub zeros : List ℕ
zeros = mark 0 0 0 0 0 0 0 0 0

-- this many entries, each 9
abbrev pub nines : ℕ → List ℕ
nines n = replicate n 9

-- this many entries that are not used
abbrev pub unused_places : ℕ → List ℕ
unused_places n = replicate n 65535

-- the record of P's cell, the first two of C's and the last
abbrev pub record_p : List ℕ
record_p = (5 ∷ 0 ∷ 1 ∷ 2 ∷ 3 ∷ 4 ∷ unused_places 3) ++ (2 ∷ 0 ∷ 1 ∷ unused_places 23)

abbrev pub first_c : List ℕ
first_c = (8 ∷ 0 ∷ 1 ∷ 2 ∷ 3 ∷ 4 ∷ 5 ∷ 6 ∷ 7 ∷ []) ++ (5 ∷ 0 ∷ 1 ∷ 2 ∷ 3 ∷ 4 ∷ unused_places 20)

abbrev pub second_c : List ℕ
second_c = (6 ∷ 0 ∷ 1 ∷ 2 ∷ 4 ∷ 5 ∷ 7 ∷ unused_places 2) ++ (3 ∷ 0 ∷ 2 ∷ 4 ∷ unused_places 22)

abbrev pub last_c : List ℕ
last_c = (5 ∷ 2 ∷ 5 ∷ 7 ∷ 3 ∷ 0 ∷ unused_places 3) ++ (2 ∷ 1 ∷ 4 ∷ unused_places 23)

-- ---- full lists

abbrev pub lists : List Row
lists =
    -- P: one cell; the other two pyramids on that facet have a corner box of 0
    row (listing mesh_p) (listed list_p) ∷
    row (judging mesh_p pyramid (1 ∷ 4 ∷ 3 ∷ 2 ∷ 0 ∷ [])) (judged (pos 8 ∷ pos 8 ∷ pos 8 ∷ pos 0 ∷ []) 4) ∷
    row (judging mesh_p pyramid (0 ∷ 3 ∷ 4 ∷ 1 ∷ 2 ∷ [])) (judged (pos 0 ∷ pos 8 ∷ pos 8 ∷ pos 8 ∷ []) 4) ∷
    -- C, and C in two parts
    row (listing (mesh_c 0)) (listed list_c) ∷
    row (counting (mesh_c 0) (8 ∷ 6 ∷ 5 ∷ [])) (counted (1 ∷ 12 ∷ 12 ∷ [])) ∷
    row (listing (mesh_c 1)) (listed []) ∷
    -- three cells on the same two tetrahedra, with different edges
    row (sharing (mesh_c 0) (0 ∷ 4 ∷ []))
    (listed (cell 5 (0 ∷ 1 ∷ 2 ∷ 7 ∷ 5 ∷ []) (0 ∷ 4 ∷ []) ∷ cell 5 (0 ∷ 7 ∷ 5 ∷ 1 ∷ 2 ∷ []) (0 ∷ 4 ∷ []) ∷ cell 5 (1 ∷ 5 ∷ 7 ∷ 2 ∷ 0 ∷ []) (0 ∷ 4 ∷ []) ∷ [])) ∷
    -- a boundary tetrahedron, 2 and 5, is none of the cell's own
    row (listing mesh_p') (listed list_p') ∷
    row (listing_kind mesh_c' hexahedron) (listed (cell_c ∷ [])) ∷
    []

-- ---- least forms

-- of each kind, unused places counting for nothing; then another kind, and two equal corners of each kind
abbrev pub forms : List Row
forms =
    row (least 8 (1 ∷ 2 ∷ 3 ∷ 0 ∷ 5 ∷ 6 ∷ 7 ∷ 4 ∷ [])) (formed 0 (Some (0 ∷ 1 ∷ 2 ∷ 3 ∷ 4 ∷ 5 ∷ 6 ∷ 7 ∷ []))) ∷
    row (least 6 (5 ∷ 4 ∷ 3 ∷ 2 ∷ 1 ∷ 0 ∷ 3 ∷ 3 ∷ [])) (formed 0 (Some (0 ∷ 1 ∷ 2 ∷ 3 ∷ 4 ∷ 5 ∷ 0 ∷ 0 ∷ []))) ∷
    row (least 5 (9 ∷ 4 ∷ 7 ∷ 2 ∷ 3 ∷ 9 ∷ 9 ∷ 2 ∷ [])) (formed 0 (Some (2 ∷ 9 ∷ 4 ∷ 7 ∷ 3 ∷ 0 ∷ 0 ∷ 0 ∷ []))) ∷
    row (least 7 (0 ∷ 1 ∷ 2 ∷ 3 ∷ 4 ∷ 5 ∷ 6 ∷ 7 ∷ [])) (formed 13 None) ∷
    row (least 0 (0 ∷ 1 ∷ 2 ∷ 3 ∷ 4 ∷ 5 ∷ 6 ∷ 7 ∷ [])) (formed 13 None) ∷
    row (least 8 (0 ∷ 1 ∷ 2 ∷ 3 ∷ 4 ∷ 5 ∷ 6 ∷ 0 ∷ [])) (formed 13 None) ∷
    row (least 6 (3 ∷ 1 ∷ 2 ∷ 1 ∷ 4 ∷ 5 ∷ 6 ∷ 7 ∷ [])) (formed 13 None) ∷
    row (least 5 (0 ∷ 1 ∷ 2 ∷ 3 ∷ 0 ∷ 5 ∷ 6 ∷ 7 ∷ [])) (formed 13 None) ∷
    []

-- ---- the answer of the check

-- a file that is accepted with these counts, and one that is refused with this number
abbrev accept : List ℕ → ℕ → ℕ → Row
accept f n t = row (checking f) (told (counted_as n t))

abbrev refuse : List ℕ → ℕ → Row
refuse f k = row (checking f) (told (Err (named k)))

abbrev pub accepted : List Row
accepted =
    accept file_p 5 2
    ∷ accept file_c 8 5
    -- no vertices and no tetrahedra; vertices alone
    ∷ accept (file [] []) 0 0
    ∷ accept (lone 1 2 3) 1 0
    -- the ends of the bounds
    ∷ accept (lone 50000 0 0) 1 0
    ∷ accept (lone 0 0 (minus 50000)) 1 0
    -- two tetrahedra on both sides of a facet
    ∷ accept (fan (joins 0 1 2 3 ∷ joins 2 1 0 5 ∷ [])) 6 2
    ∷ []

-- one fault each
abbrev pub single : List Row
single =
    -- too short, too long, another length than the header's
    refuse [] 1
    ∷ refuse (replicate 23 0) 1
    ∷ refuse (header 0 24 0 24 26649 0 ++ replicate 26625 0) 1
    ∷ refuse (lone 1 2 3 ++ 0 ∷ []) 1
    -- 513 vertices in a file of the greatest length, 2,049 tetrahedra
    ∷ refuse (header 513 24 0 6180 26648 0 ++ replicate 26624 0) 2
    ∷ refuse (header 0 24 2049 24 24 0) 2
    -- 512 vertices and 2,048 tetrahedra, without their bytes; an offset, the other, the total, the zero
    ∷ refuse (header 512 24 2048 6168 24 0) 3
    ∷ refuse (header 0 28 0 24 24 0) 3
    ∷ refuse (header 0 24 0 36 24 0) 3
    ∷ refuse (header 0 24 0 24 34 0 ++ joins 0 0 0 0) 3
    ∷ refuse (header 0 24 0 24 24 1) 3
    -- past the ends of the bounds
    ∷ refuse (lone 50001 0 0) 4
    ∷ refuse (lone 0 0 (minus 50001)) 4
    -- vertex number n
    ∷ refuse (cube (joins 0 5 2 8)) 5
    -- a vertex twice
    ∷ refuse (cube (joins 0 5 2 5)) 6
    -- a box of -2, a box of 0
    ∷ refuse turned 7
    ∷ refuse (tent (joins 0 1 2 3 ∷ [])) 7
    -- three on a facet
    ∷ refuse (fan (joins 0 1 2 3 ∷ joins 2 1 0 5 ∷ joins 1 2 0 4 ∷ [])) 8
    -- two on one side of a facet; one tetrahedron in two parts
    ∷ refuse (fan (joins 0 1 2 3 ∷ joins 1 2 0 4 ∷ [])) 9
    ∷ refuse (fan (joins 0 1 2 3 ∷ joins 0 1 2 3 ∷ [])) 9
    ∷ []

-- two faults each, of which the lower number is told
abbrev pub double : List Row
double =
    refuse (header 513 24 0 24 25 0) 1
    ∷ refuse (header 513 28 0 24 24 0) 2
    ∷ refuse (header 1 24 0 36 36 7 ++ vertex 50001 0 0) 3
    ∷ refuse (file (vertex 50001 0 0 ∷ []) (joins 0 1 2 3 ∷ [])) 4
    ∷ refuse (tent (joins 0 1 1 4 ∷ joins 0 2 3 5 ∷ [])) 5
    ∷ refuse (tent (joins 0 2 1 4 ∷ joins 0 2 3 0 ∷ [])) 6
    ∷ refuse (fan (joins 0 1 2 3 ∷ joins 0 1 2 3 ∷ joins 0 2 1 3 ∷ [])) 7
    ∷ refuse (fan (joins 0 1 2 3 ∷ joins 0 1 2 4 ∷ joins 1 2 0 4 ∷ [])) 8
    ∷ []

-- the box of the cube's last tetrahedron, its vertices in two orders
abbrev pub orders : List Row
orders =
    row (boxing turned 0 2 5 7) (boxed (negsuc 1))
    ∷ row (boxing file_c 0 5 2 7) (boxed (pos 2))
    ∷ []

abbrev pub checks : List Row
checks = accepted ++ single ++ double ++ orders

-- ---- calls of `portion`

-- nothing is written
abbrev pub refusing : List ℕ → List ℕ → ℕ → ℕ → ℕ → Row
refusing f k table room x = row (calling f k (nines table) (nines room)) (left (refused x) (nines table) (nines room))

-- on C with a table of 45 entries, the room with this many more entries than the records
abbrev pub giving : List ℕ → List ℕ → ℕ → Answer → Row
giving k written more a =
    row (calling file_c k (nines 45) (nines (length written) ++ nines more)) (left a table_c (written ++ nines more))

abbrev pub calls : List Row
calls =
    -- P: one cell; with more room and a longer table, and with exactly enough of both; with a table one short
    row (calling file_p start_of (nines 26) (nines 37)) (left (given 1 true zeros) (table_p ++ nines 2) (record_p ++ nines 2)) ∷
    row (calling file_p start_of (nines 24) (nines 35)) (left (given 1 true zeros) table_p record_p) ∷
    refusing file_p start_of 23 35 10 ∷
    -- C with room for 25; with room for 24, and then for 1 from the mark handed back
    giving start_of (records tet_rule list_c) 0 (given 25 true zeros) ∷
    giving start_of (records tet_rule (take 24 list_c)) 0 (given 24 false (mark 5 2 5 4 7 0 0 0 0)) ∷
    giving (mark 5 2 5 4 7 0 0 0 0) last_c 0 (given 1 true zeros) ∷
    -- from that mark, whatever stands beyond the corners
    giving (mark 5 2 5 4 7 0 9 9 9) last_c 0 (given 1 true zeros) ∷
    -- C from the start mark with 34 entries, with 35, and with 69
    refusing file_c start_of 45 34 11 ∷
    giving start_of first_c 0 (given 1 false (mark 8 0 1 2 3 4 5 6 7)) ∷
    giving start_of first_c 34 (given 1 false (mark 8 0 1 2 3 4 5 6 7)) ∷
    giving (mark 8 0 1 2 3 4 5 6 7) second_c 0 (given 1 false (mark 6 0 1 2 4 5 7 0 0)) ∷
    -- a table one short, and a room that is short as well
    refusing file_c start_of 44 35 10 ∷
    refusing file_c start_of 44 34 10 ∷
    -- C in two parts: no cells, and the end at once
    row (calling mixed start_of (nines 45) (nines 35)) (left (given 0 true zeros) table_c (nines 35)) ∷
    -- a box of -2, whatever the table and the room
    refusing turned start_of 45 35 7 ∷
    refusing turned start_of 0 0 7 ∷
    -- marks that are never handed out: kinds that are none; no cell's tuple, with numbers beyond the corners; a tuple
    -- past all
    giving (mark 7 9 9 9 9 9 9 9 9) second_c 0 (given 1 false (mark 6 0 1 2 4 5 7 0 0)) ∷
    giving (mark 9 9 9 9 9 9 9 9 9) first_c 0 (given 1 false (mark 8 0 1 2 3 4 5 6 7)) ∷
    giving (mark 6 0 1 2 4 5 6 65535 65535) second_c 0 (given 1 false (mark 6 0 1 2 4 5 7 0 0)) ∷
    giving (mark 5 2 5 6 0 0 1 2 3) last_c 1 (given 1 true zeros) ∷
    giving (mark 5 65535 65535 65535 65535 65535 0 0 0) [] 35 (given 0 true zeros) ∷
    giving (mark 3 0 0 0 0 0 0 0 0) [] 35 (given 0 true zeros) ∷
    -- nine zeros
    giving zeros [] 35 (given 0 true zeros) ∷
    []

-- ---- lists packed

-- the file in a room of so many bytes, and in one with more
abbrev pub packs : List ℤ → List ℕ → List ℕ → List ℕ → ℕ → Row
packs cs ls ps f more = row (packing cs ls ps (nines (length f) ++ nines more)) (packed_to (Ok (length f)) (f ++ nines more))

-- nothing is written into so many bytes
abbrev pub not_packed : List ℤ → List ℕ → List ℕ → ℕ → ℕ → Row
not_packed cs ls ps room x = row (packing cs ls ps (nines room)) (packed_to (Err (named x)) (nines room))

abbrev pub packings : List Row
packings =
    -- P in exactly its room, C with room for one byte more, and with its last tetrahedron in part 1
    packs coords_p numbers_p (noughts 2) file_p 0
    ∷ packs coords_c (numbers_c 0 5 2 7) (noughts 5) file_c 1
    ∷ packs coords_c (numbers_c 0 5 2 7) (0 ∷ 0 ∷ 0 ∷ 0 ∷ 1 ∷ []) mixed 0
    -- no vertices and no tetrahedra; a vertex at the ends of the bounds
    ∷ packs [] [] [] (file [] []) 0
    ∷ packs (pos 50000 ∷ negsuc 0 ∷ negsuc 49999 ∷ []) [] [] (lone 50000 (minus 1) (minus 50000)) 2
    -- 14: not in threes, not in fours, a part too few, a part too many
    ∷ not_packed (pos 0 ∷ []) [] [] 40 14
    ∷ not_packed coords_p (0 ∷ 1 ∷ 2 ∷ []) [] 104 14
    ∷ not_packed coords_p numbers_p (noughts 1) 104 14
    ∷ not_packed coords_p numbers_p (noughts 3) 104 14
    -- 1: 26,650 bytes; 2: 513 vertices, and 2,049 tetrahedra
    ∷ not_packed (still 1539) (noughts 8188) (noughts 2047) 40 1
    ∷ not_packed (still 1539) [] [] 40 2
    ∷ not_packed [] (noughts 8196) (noughts 2049) 40 2
    -- 4: past the ends of the bounds, and the ends of 32 bits
    ∷ not_packed (pos 0 ∷ pos 50001 ∷ pos 0 ∷ []) [] [] 36 4
    ∷ not_packed (pos 0 ∷ negsuc 50000 ∷ pos 0 ∷ []) [] [] 36 4
    ∷ not_packed (pos 2147483647 ∷ pos 0 ∷ negsuc 2147483647 ∷ []) [] [] 36 4
    -- 5, 6, 7
    ∷ not_packed coords_c (numbers_c 0 5 2 8) (noughts 5) 170 5
    ∷ not_packed coords_c (numbers_c 0 5 2 5) (noughts 5) 170 6
    ∷ not_packed coords_c (numbers_c 0 2 5 7) (noughts 5) 170 7
    -- 8, 9
    ∷ not_packed coords_fan (0 ∷ 1 ∷ 2 ∷ 3 ∷ 2 ∷ 1 ∷ 0 ∷ 5 ∷ 1 ∷ 2 ∷ 0 ∷ 4 ∷ []) (noughts 3) 126 8
    ∷ not_packed coords_fan (0 ∷ 1 ∷ 2 ∷ 3 ∷ 1 ∷ 2 ∷ 0 ∷ 4 ∷ []) (noughts 2) 116 9
    -- 15: one byte short, and no room at all
    ∷ not_packed coords_p numbers_p (noughts 2) 103 15
    ∷ not_packed [] [] [] 0 15
    -- two faults and more: 14 before 1 and 2, and before 4, 5 and 15; 1, 4 and 9 before 15
    ∷ not_packed (still 6661) (noughts 8196) (noughts 2049) 0 14
    ∷ not_packed (pos 50001 ∷ []) (9 ∷ 9 ∷ 9 ∷ 9 ∷ []) [] 0 14
    ∷ not_packed (still 1539) (noughts 8188) (noughts 2047) 0 1
    ∷ not_packed (pos 0 ∷ pos 50001 ∷ pos 0 ∷ []) [] [] 0 4
    ∷ not_packed coords_fan (0 ∷ 1 ∷ 2 ∷ 3 ∷ 1 ∷ 2 ∷ 0 ∷ 4 ∷ []) (noughts 2) 115 9
    ∷ []

-- ---- the table

abbrev pub table : List Row
table = lists ++ forms ++ calls ++ checks ++ packings ++ asked

-- the claim
abbrev pub Worked : Type 0
Worked = RowsHold table

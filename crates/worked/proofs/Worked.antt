-- The rows of `specs/Rows.antt` hold. The calls follow by computation from the full lists; least forms, and from the
-- bytes the answers of the check, are computed.
-- Assumes nothing.
use Prim.Native.Nat.{ℕ}
use mathlib.Core.Path.{◌≡◌, refl, sym, ◌∙◌, ap}
use mathlib.Core.Bool.{cond}
use mathlib.Core.List.{List, [], ◌∷◌, ◌++◌}
use native.Mathlib.Omega.{arith}
use lib.Dec.{eqb, ltb}
use lib.ListN.{length, drop}
use Rattle.base.specs.Lists.{keep, spread}
use Rattle.base.specs.Refusals.{first_of}
use Rattle.space.specs.Mesh.{together}
use Rattle.layout.specs.Layout.{vertices, decoded}
use Rattle.arrays.specs.Refusals.{refusals, refusal}
use Rattle.least.specs.Least.{first_is_less, rises_at}
use Rattle.turning.specs.Form.{least_by, form_by, least_form}
use Rattle.cells.specs.Full.{Cell, full_list}
use Rattle.neighbours.specs.Table.{neighbour_row, first_rows, offsets, table_by, neighbours_of, table_of}
use Rattle.portions.specs.Portions.{Portion, reply, refused, before, is_after, after, records, last_mark, portion_of, portion}
use Rattle.record.specs.Entries.{entries}
use Rattle.rule.specs.Rule.{key, tet_rule}
use Rattle.records.specs.Marks.{Answer, says}
use Rattle.portioning.specs.Portion.{barred, portion_by, table_left, Portioned}
use Rattle.portioning.proofs.Promised.{bars_file, bars_past}
use Rattle.listing.proofs.File.{accepted-passed}
use Rattle.encoding.specs.File.{u16_bytes, u32_bytes, bits_of, i32_bytes, header_bytes, tet_bytes, file_of}
use Rattle.packing.specs.Packed.{lengths_fit, written_unless, packed}
use Rattle.worked.specs.Meshes.{mesh_p, mesh_c, list_p, list_c}
use Rattle.worked.specs.Files.{file_p, file_c, mixed, turned}
use Rattle.worked.specs.Questions.{Reply, left, calling, ask, RowsHold}
use Rattle.worked.specs.Rows.{table_p, table_c, forms, calls, checks, packings, Worked}
use Rattle.worked.proofs.Asked.{asked_hold}
use Rattle.worked.proofs.Opened.{reading}
use Rattle.worked.proofs.Lists.{full_p, full_c, full-mixed, lists_hold}

-- ---- the files' meshes and refusals

reads_p : decoded file_p ≡ mesh_p
unfolding reading
reads_p = refl

reads_c : decoded file_c ≡ mesh_c 0
unfolding reading
reads_c = refl

reads_mixed : decoded mixed ≡ mesh_c 1
unfolding reading
reads_mixed = refl

sound_p : refusal file_p ≡ 0
unfolding reading
sound_p = refl

sound_c : refusal file_c ≡ 0
unfolding reading
sound_c = refl

sound-mixed : refusal mixed ≡ 0
unfolding reading
sound-mixed = refl

flat-turned : refusal turned ≡ 7
unfolding reading
flat-turned = refl

-- ---- their tables

unfoldable tabling : ℕ
unfolding keep spread together neighbour_row first_rows offsets table_by neighbours_of table_of
tabling = 0

table-p : table_of mesh_p 5 ≡ table_p
unfolding tabling
table-p = refl

table-c : table_of (mesh_c 0) 8 ≡ table_c
unfolding tabling
table-c = refl

table-mixed : table_of (mesh_c 1) 8 ≡ table_c
unfolding tabling
table-mixed = refl

-- ---- a call by the first refusal, its full list and its table

module _ (k table room : List ℕ) where
  abbrev portion_from : ℕ → List Cell → Portion
  portion_from x cs = cond (eqb x 0) (portion tet_rule cs k (length room)) (reply (refused x) [])

  unfoldable replied : ℕ → List Cell → List ℕ → Reply
  replied x cs ts =
      left (portion_from x cs).answer (cond (eqb x 0) (ts ++ drop (length ts) table) table)
      ((portion_from x cs).written ++ drop (length (portion_from x cs).written) room)

  -- the first of 10 and 11 that applies
  unfoldable roomed : List ℕ → ℕ
  roomed ts = cond (ltb (length table) (length ts)) 10 (cond (ltb (length room) tet_rule.size) 11 0)

  call : (f : List ℕ) → ask (calling f k table room) ≡ replied (barred (refusals f) (decoded f) (vertices f) (length table) (length room)) (full_list (decoded f)) (table_of (decoded f) (vertices f))
  unfolding ask portion_by table_left replied
  call f = refl

  -- of an accepted file
  bars : (f : List ℕ) → refusal f ≡ 0 → barred (refusals f) (decoded f) (vertices f) (length table) (length room) ≡ roomed (table_of (decoded f) (vertices f))
  unfolding barred first_of roomed
  bars f e = bars_past (refusals f) (decoded f) (vertices f) (accepted-passed f e) (length table) (length room)

  accepts : (f : List ℕ) → refusal f ≡ 0 → ask (calling f k table room) ≡ replied (roomed (table_of (decoded f) (vertices f))) (full_list (decoded f)) (table_of (decoded f) (vertices f))
  accepts f e = call f ∙ ap (λ x. replied x (full_list (decoded f)) (table_of (decoded f) (vertices f))) (bars f e)

  calls_p : ask (calling file_p k table room) ≡ replied (roomed table_p) list_p table_p
  calls_p =
      accepts file_p sound_p
      ∙ ap (λ m. replied (roomed (table_of m 5)) (full_list m) (table_of m 5)) reads_p
      ∙ ap (λ cs. replied (roomed (table_of mesh_p 5)) cs (table_of mesh_p 5)) full_p
      ∙ ap (λ ts. replied (roomed ts) list_p ts) table-p

  calls_C : ask (calling file_c k table room) ≡ replied (roomed table_c) list_c table_c
  calls_C =
      accepts file_c sound_c
      ∙ ap (λ m. replied (roomed (table_of m 8)) (full_list m) (table_of m 8)) reads_c
      ∙ ap (λ cs. replied (roomed (table_of (mesh_c 0) 8)) cs (table_of (mesh_c 0) 8)) full_c
      ∙ ap (λ ts. replied (roomed ts) list_c ts) table-c

  calls-mixed : ask (calling mixed k table room) ≡ replied (roomed table_c) [] table_c
  calls-mixed =
      accepts mixed sound-mixed
      ∙ ap (λ m. replied (roomed (table_of m 8)) (full_list m) (table_of m 8)) reads_mixed
      ∙ ap (λ cs. replied (roomed (table_of (mesh_c 1) 8)) cs (table_of (mesh_c 1) 8)) full-mixed
      ∙ ap (λ ts. replied (roomed ts) [] ts) table-mixed

  calls-turned : ask (calling turned k table room) ≡ left (refused 7) table room
  unfolding replied refusal
  calls-turned =
      call turned
      ∙ ap (λ x. replied x (full_list (decoded turned)) (table_of (decoded turned) 8)) (bars_file (refusals turned) (decoded turned) (vertices turned) (length table) (length room) (omega (arith, flat-turned)) ∙ flat-turned)

  -- any outcome of a call that its promise permits is the one that the row says
  pub replies : (f : List ℕ) {a : Answer} {table' room' : List ℕ} → Portioned f k table room a table' room' → ask (calling f k table room) ≡ left (says a) table' room'
  unfolding ask
  replies f p = λ i. left (sym p.answered i) (sym p.tabled i) (sym p.stored i)

-- ---- the rows

unfoldable opened : ℕ
unfolding keep spread before is_after after records last_mark portion_of portion key entries replied roomed
opened = 0

forms_hold : RowsHold forms
unfolding ask least_form form_by least_by rises_at first_is_less keep
forms_hold = refl

checks_hold : RowsHold checks
unfolding ask reading
checks_hold = refl

packings_hold : RowsHold packings
unfolding ask reading spread u16_bytes u32_bytes bits_of i32_bytes header_bytes tet_bytes file_of lengths_fit written_unless packed
packings_hold = refl

-- one row and those after it
infixr 5 ◌also◌
◌also◌ : {x y : Reply} {xs ys : List Reply} → x ≡ y → xs ≡ ys → x ∷ xs ≡ y ∷ ys
p also q = λ i. p i ∷ q i

calls_hold : RowsHold calls
unfolding opened
calls_hold =
    calls_p _ _ _
    also calls_p _ _ _
    also calls_p _ _ _
    also calls_C _ _ _
    also calls_C _ _ _
    also calls_C _ _ _
    also calls_C _ _ _
    also calls_C _ _ _
    also calls_C _ _ _
    also calls_C _ _ _
    also calls_C _ _ _
    also calls_C _ _ _
    also calls_C _ _ _
    also calls-mixed _ _ _
    also calls-turned _ _ _
    also calls-turned _ _ _
    also calls_C _ _ _
    also calls_C _ _ _
    also calls_C _ _ _
    also calls_C _ _ _
    also calls_C _ _ _
    also calls_C _ _ _
    also calls_C _ _ _
    also refl

pub worked : Worked
worked = λ i. lists_hold i ++ forms_hold i ++ calls_hold i ++ checks_hold i ++ packings_hold i ++ asked_hold i

-- The questions that rows ask, the answers by the definitions, and when rows hold.
-- Assumes nothing.
use Rattle.std.specs.Prelude.{ℕ, ◌≡◌, List, map, eqb, ℤ, length, Option, Result}
use Rattle.base.specs.Lists.{keep, equal}
use Rattle.space.specs.Box.{box}
use Rattle.space.specs.Mesh.{Mesh, point}
use Rattle.layout.specs.Layout.{vertices, decoded}
use Rattle.arrays.specs.Refusals.{refusals, checked}
use Rattle.arrays.specs.declared.Counts.{Counts}
use Rattle.refusals.specs.declared.Refusal.{Refusal}
use Rattle.templates.specs.Tables.{Template, at}
use Rattle.turning.specs.Form.{least_form, least_number}
use Rattle.cells.specs.Cells.{box_at, first_failing}
use Rattle.cells.specs.Full.{Cell, cells_of, full_list}
use Rattle.portions.specs.Portions.{Answer}
use Rattle.portioning.specs.Portion.{portion_by, table_left, room_left}
use Rattle.reasons.specs.declared.Finding.{Finding}
use Rattle.why.specs.Why.{explained}
use Rattle.encoding.specs.File.{file_of}
use Rattle.packing.specs.Packed.{packed, room_after}

pub data Question : Type 0 where
  -- the full list of a mesh; how many cells of each of these kinds; the cells with exactly these tetrahedra
  listing : Mesh → Question
  counting : Mesh → (kinds : List ℕ) → Question
  sharing : Mesh → (tets : List ℕ) → Question
  -- the cells of one kind
  listing_kind : Mesh → Template → Question
  -- a tuple's corner boxes, and the first condition that it fails
  judging : Mesh → Template → (tuple : List ℕ) → Question
  -- the least form of a tuple of this kind
  least : (kind : ℕ) (tuple : List ℕ) → Question
  -- the check of a file
  checking : (file : List ℕ) → Question
  -- a call on the file, from the mark on, with this table and this room
  calling : (file mark table room : List ℕ) → Question
  -- the box of four vertices of a file
  boxing : (file : List ℕ) (a b c d : ℕ) → Question
  -- why a tuple of this kind is not a cell of the file
  asking : (file : List ℕ) (kind : ℕ) (tuple : List ℕ) → Question
  -- these lists into this room
  packing : (coordinates : List ℤ) (numbers parts room : List ℕ) → Question

pub data Reply : Type 0 where
  listed : List Cell → Reply
  counted : List ℕ → Reply
  judged : List ℤ → ℕ → Reply
  -- a least form or a refusal, with the refusal's number
  formed : ℕ → Option (List ℕ) → Reply
  told : Result Counts Refusal → Reply
  -- the answer, and what the table and the room hold afterwards
  left : Answer → (table room : List ℕ) → Reply
  boxed : ℤ → Reply
  reasoned : Result Finding Refusal → Reply
  -- the answer, and what the room holds afterwards
  packed_to : Result ℕ Refusal → (room : List ℕ) → Reply

unfoldable pub counts : List ℕ → List Cell → List ℕ
counts ks ds = map (λ k. length (keep (λ d. eqb d.kind k) ds)) ks

unfoldable pub with_tets : List ℕ → List Cell → List Cell
with_tets es ds = keep (λ d. equal d.tets es) ds

unfoldable pub ask : Question → Reply
ask (listing m) = listed (full_list m)
ask (counting m ks) = counted (counts ks (full_list m))
ask (sharing m es) = listed (with_tets es (full_list m))
ask (listing_kind m t) = listed (cells_of m t)
ask (judging m t c) = judged (map (λ ks. box_at m (at c ks)) t.triples) (first_failing m t c)
ask (least k c) = formed (least_number (least_form k c)) (least_form k c)
ask (checking f) = told (checked f)
ask (calling f k table room) =
    left
    (portion_by (refusals f) (decoded f) (vertices f) k (length table) (length room)).answer
    (table_left (refusals f) (decoded f) (vertices f) table (length room))
    (room_left (refusals f) (decoded f) (vertices f) k (length table) room)
ask (boxing f a b c d) =
    let p = point (decoded f) in
    boxed (box (p a) (p b) (p c) (p d))
ask (asking f k c) = reasoned (explained f k c)
ask (packing cs ls ps room) = let a = packed cs ls ps (length room) in packed_to a (room_after (file_of cs ls ps) a room)

pub record Row : Type 0 where
  pub question : Question
  pub reply : Reply

abbrev pub row : Question → Reply → Row
row q r = record { question = q; reply = r }

-- the definitions give the reply of each of these rows
abbrev pub RowsHold : List Row → Type 0
RowsHold rs = map (λ r. ask r.question) rs ≡ map (λ r. r.reply) rs

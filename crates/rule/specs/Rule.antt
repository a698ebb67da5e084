-- The rule of hexahedra, prisms and pyramids: the keys of marks, and records.
-- Assumes nothing.
use Rattle.std.specs.Prelude.{ℕ, ◌-◌, Bool, ◌&&◌, ◌||◌, List, [], ◌∷◌, eqb, ltb}
use Rattle.templates.specs.Tables.{template_of, at}
use Rattle.cells.specs.Full.{Cell}
use Rattle.record.specs.Entries.{record_size, entries, fits}
use Rattle.record.specs.Marks.{cell_mark, start_mark, end_mark}
use Rattle.portions.specs.Portions.{before, Rule}

-- ── marks: a kind number and eight numbers in letter order ──

-- the key of a mark: kinds fall, so it is 65,535 less the kind;
-- then the numbers in the kind's search order, and none beyond its corners
unfoldable pub key : List ℕ → List ℕ
key [] = []
key (k ∷ vs) = (65535 - k) ∷ at vs (template_of k).order

-- the same in words: the cell has a smaller kind than the mark, or its kind and a greater tuple in search order
unfoldable pub comes_after : ℕ → List ℕ → Cell → Bool
comes_after k vs c =
    let o = (template_of c.kind).order in
    ltb c.kind k || (eqb c.kind k && before (at vs o) (at c.corners o))

abbrev pub tet_rule : Rule Cell
tet_rule = record {
  mark = cell_mark;
  key = key;
  start = start_mark;
  end = end_mark;
  size = record_size;
  entries = entries;
  fits = fits;
}

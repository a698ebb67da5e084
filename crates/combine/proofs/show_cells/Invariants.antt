-- What was written and what stands in the text are the lines so far; the next line's place lies in the text.
use Rattle.std.proofs.Common.{◌≡◌, ◌≤◌, List, ℕ, ◌++◌, length, take}
use Rattle.std.specs.Io.KnownBytes.{Appends}
use Rattle.combine.specs.Listed.{cell_lines}
use Rattle.combine.proofs.show_cells.Given as goal

abbrev pub invariant-loop-i : goal.invariant-loop-i
invariant-loop-i g l = record {
  within : l.i ≤ l.count;
  place : l.at ≤ 65536;
  room : length l.out ≡ 65536;
  lines : (w : List ℕ)
      × Appends (g.W.Write.contents l.initial.to) (g.W.Write.contents l.to) w
      × (w ++ take l.at l.out ≡ cell_lines l.records l.i);
}

-- `opalcrumb::opalcrumb_portion` meets its contract. Assumes nothing.
use mathlib.Core.Path.{◌≡◌}
use mathlib.Core.List.{List}
use Prim.Native.Nat.{ℕ}
use Rattle.records.specs.Marks.{Answer}
use Rattle.portioning.specs.Portion.{Portioned}
use Rattle.opalcrumb.proofs.opalcrumb_portion.Goals as goal

-- the same promise from an equal mark
marked : (f : List ℕ) {j k table room table' room' : List ℕ} {a : Answer} → j ≡ k → Portioned f j table room a table' room' → Portioned f k table room a table' room'
marked f e p = rw e at p

pub returns : goal.returns
returns c = let f = c.args.file.now in let m = c.mark_of.ensures in let p = c.portion-answer in let h = c.hand_out.ensures in record {
  answer = p.result;
  portioned = marked f m p.ensures;
  number_is = h.number;
  mark-is = h.mark;
  count-is = h.count;
  end_is = h.end;
}

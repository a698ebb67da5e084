-- A line is laid behind those that stand, and what has no place is written before it.
use Rattle.std.proofs.Common.{[], ◌++◌, refl, sym, ◌∙◌, arith}
use Rattle.std.proofs.KnownBytes.{Appends-nil, Appends-trans}
use Rattle.combine.specs.Listed.{cell_lines}
use Rattle.combine.proofs.Lines.{one_more, laid_front, joined}
use Rattle.combine.proofs.show_cells.Goals as goal

pub loop-i-init : goal.loop-i-init
unfolding cell_lines
loop-i-init g c = record { within = omega arith; place = omega arith; room = c.told-out; lines = ([], Appends-nil _, refl) }

pub loop-i-preserved : goal.loop-i-preserved
loop-i-preserved g c =
    let i = c.loop-i.invariant.lines in
    let f = c.in_ok-next.ensures in
    let p = c.put_cell-at.ensures in
    record {
      within = omega arith;
      place = omega (arith, f.0, p.next, p.text.room, c.loop-i.invariant.room);
      room = p.text.same ∙ c.loop-i.invariant.room;
      lines = (
        i.0 ++ f.1,
        Appends-trans _ _ _ _ _ i.1 f.2,
        joined _ _ _ _ _ _ _ (laid_front p.text p.next) f.3 i.2 ∙ sym (one_more c.args.records.now c.loop-i.i),
      );
    }

-- `packing::store` meets its contract. Assumes nothing.
use mathlib.Core.Path.{refl, sym, ap, ◌∙◌}
use native.Mathlib.Omega.{arith}
use lib.ListN.{length}
use Rattle.refusals.proofs.Named.{handed_on}
use Rattle.arrays.proofs.Answers.{accepted-says, refused_says, refusal_named}
use Rattle.packing.specs.Packed.{room_after}
use Rattle.packing.proofs.Ways.{stored_refused, stored_short, stored-whole}
use Rattle.packing.proofs.store.Goals as goal

pub returns-in_err-check : goal.returns-in_err-check
returns-in_err-check c =
    let a = c.args in
    let f = a.file.now in
    let e = handed_on _ _ c.from_residual.ensures.1 in
    record {
      answer = e ∙ stored_refused f (length a.room.now) (refused_says f (refusal_named f) (sym c.in_err-check.ensures));
      room = ap (λ w. room_after f w a.room.now) (sym e);
    }

pub returns-then-room-file : goal.returns-then-room-file
returns-then-room-file c = let a = c.args in record { answer = stored_short a.file.now (length a.room.now) (accepted-says a.file.now (sym c.in_ok-check.ensures)).0 (omega arith); room = refl }

pub returns-clause-answer : goal.returns-clause-answer
returns-clause-answer c = stored-whole c.args.file.now (length c.args.room.now) (accepted-says c.args.file.now (sym c.in_ok-check.ensures)).0 (omega arith)

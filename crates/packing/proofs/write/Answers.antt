-- `packing::write` meets its contract. Assumes nothing.
use mathlib.Core.Path.{◌≡◌, refl, sym, ◌∙◌}
use mathlib.Core.Bool.{true}
use Prim.Native.Nat.{◌+◌, ◌*◌, ◌≤◌}
use native.Mathlib.Omega.{arith}
use lib.ListN.{length, take}
use lib.Seq.{length-take-le}
use borrow.Author.Tests.{ltb-true, ltb-false}
use Rattle.packing.specs.Packed.{lengths_fit}
use Rattle.packing.proofs.Ways.{packed_unfit, packed-by, packed-long, fit-says}
use Rattle.packing.proofs.write.Goals as goal

pub returns-then-not-lengths_fit : goal.returns-then-not-lengths_fit
returns-then-not-lengths_fit c = let a = c.args in record { answer = packed_unfit a.coordinates.now a.numbers.now a.parts.now (length a.room.now) (sym c.lengths_fit.ensures ∙ c.if-not-lengths_fit.true); room = refl }

pub returns-then-is_long : goal.returns-then-is_long
returns-then-is_long c = let a = c.args in record { answer = packed-long a.coordinates.now a.numbers.now a.parts.now (length a.room.now) ((let it : lengths_fit (length c.args.coordinates.now) (length c.args.numbers.now) (length c.args.parts.now) ≡ true = sym c.lengths_fit.ensures ∙ c.if-not-lengths_fit.false in it)) (ltb-true 26648 _ (sym c.is_long.ensures ∙ c.if-is_long.true)); room = refl }

pub overflow_mul-size-2 : goal.overflow_mul-size-2
overflow_mul-size-2 c = omega (arith, (let it : 24 + 4 * length c.args.coordinates.now + 10 * length c.args.parts.now ≤ 26648 = ltb-false 26648 _ (sym c.is_long.ensures ∙ c.if-is_long.false) in it))

pub overflow_add-size-2 : goal.overflow_add-size-2
overflow_add-size-2 c = omega (arith, (let it : 24 + 4 * length c.args.coordinates.now + 10 * length c.args.parts.now ≤ 26648 = ltb-false 26648 _ (sym c.is_long.ensures ∙ c.if-is_long.false) in it))

pub slice_bounds-file-end : goal.slice_bounds-file-end
slice_bounds-file-end c = omega (arith, (let it : 24 + 4 * length c.args.coordinates.now + 10 * length c.args.parts.now ≤ 26648 = ltb-false 26648 _ (sym c.is_long.ensures ∙ c.if-is_long.false) in it))

pub slice_bounds-write_by-end : goal.slice_bounds-write_by-end
slice_bounds-write_by-end c = sym (length-take-le _ _ (let h = (let it : 24 + 4 * length c.args.coordinates.now + 10 * length c.args.parts.now ≤ 26648 = ltb-false 26648 _ (sym c.is_long.ensures ∙ c.if-is_long.false) in it) in omega arith))

pub write_by-requires : goal.write_by-requires
write_by-requires c = let h = (let it : 24 + 4 * length c.args.coordinates.now + 10 * length c.args.parts.now ≤ 26648 = ltb-false 26648 _ (sym c.is_long.ensures ∙ c.if-is_long.false) in it) in
    let a = c.args in let l = 24 + 4 * length a.coordinates.now + 10 * length a.parts.now in
    let e : length (take l c.file_room-file.result) ≡ l = length-take-le l c.file_room-file.result (omega arith) in
    let f = fit-says _ _ _ ((let it : lengths_fit (length c.args.coordinates.now) (length c.args.numbers.now) (length c.args.parts.now) ≡ true = sym c.lengths_fit.ensures ∙ c.if-not-lengths_fit.false in it)) in
    record { threes = f.threes; fours = f.fours; size = e; short = omega arith }

pub returns : goal.returns
returns c = let a = c.args in record { answer = packed-by a.coordinates.now a.numbers.now a.parts.now (length a.room.now) ((let it : lengths_fit (length c.args.coordinates.now) (length c.args.numbers.now) (length c.args.parts.now) ≡ true = sym c.lengths_fit.ensures ∙ c.if-not-lengths_fit.false in it)) c.write_by.ensures.answer; room = c.write_by.ensures.room }

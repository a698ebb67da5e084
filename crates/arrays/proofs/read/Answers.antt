-- `arrays::read` meets its contract: what was read is the file's, and the tests behind tell its refusal.
-- Assumes nothing.
use mathlib.Core.Path.{◌≡◌, sym}
use Prim.Native.Nat.{◌+◌, ◌*◌}
use native.Mathlib.Omega.{arith}
use lib.ListN.{length}
use lib.Seq.{length-take-le, take_at}
use Rattle.refusals.proofs.Named.{handed_on}
use Rattle.arrays.proofs.Numbers.{numbers-close}
use Rattle.arrays.proofs.Answers.{header-framed}
use Rattle.arrays.proofs.Loads.{coords_long_by, labels_are, parts_are, labels-few, indexable, told_early, told-late, arrays_of, on_either}
use Rattle.arrays.proofs.read.Goals as goal

pub decode-requires-clause-framed : goal.decode-requires-clause-framed
decode-requires-clause-framed c = header-framed _ c.requires.headed

pub misread-requires : goal.misread-requires
misread-requires c = let d = c.decode.ensures in labels-few _ c.requires.headed d.coordinates d.numbers d.partition

pub returns-in_err-misread-clause-told : goal.returns-in_err-misread-clause-told
returns-in_err-misread-clause-told c = let d = c.decode.ensures in let r = c.in_err-misread.field-0.0 in
    rw (handed_on c.from_residual.result r c.from_residual.ensures.1) (told_early _ c.requires.headed d.coordinates d.numbers d.partition r c.in_err-misread.ensures)

pub index-requires-clause-labelled : goal.index-requires-clause-labelled
index-requires-clause-labelled c = let d = c.decode.ensures in indexable _ c.requires.headed d.coordinates d.numbers d.partition (sym c.in_ok-misread.ensures)

pub misplaced-requires : goal.misplaced-requires
misplaced-requires c = numbers-close c.decode.new.coords c.decode.new.labels (sym c.in_ok-misread.ensures)

pub returns-clause-told : goal.returns-clause-told
returns-clause-told c = let d = c.decode.ensures in told-late _ c.requires.headed d.coordinates d.numbers d.partition (sym c.in_ok-misread.ensures) c.misplaced.ensures

pub returns-clause-arrays : goal.returns-clause-arrays
returns-clause-arrays c = let d = c.decode.ensures in let n = c.decode.new in let i = c.index.new in let k = c.args.counts in
    let o : length i.offsets ≡ k.vertices + 1 = omega (arith, c.index.auto.offsets, length-take-le (k.vertices + 1) c.args.offsets.now (omega (arith, c.requires.n_in_bounds.0))) in
    let e : length i.entries ≡ 4 * k.tets = omega (arith, c.index.auto.entries, length-take-le (4 * k.tets) c.args.entries.now c.requires.n_in_bounds.1) in
    on_either c.misplaced.result
    (rw (take_at n.coords _ _ (coords_long_by _ c.requires.headed d.coordinates d.numbers d.partition), take_at n.labels _ _ (labels_are _ c.requires.headed d.coordinates d.numbers d.partition), take_at n.parts _ _ (parts_are _ c.requires.headed d.coordinates d.numbers d.partition), take_at i.offsets _ _ o, take_at i.entries _ _ e)
    (arrays_of _ c.requires.headed d.coordinates d.numbers d.partition (sym c.in_ok-misread.ensures) c.index.ensures.indexed))

-- `arrays::header` meets its contract: the first test that applies is told. Assumes nothing.
use mathlib.Core.Path.{◌≡◌, sym, ap, ◌∙◌}
use mathlib.Core.Bool.{true, not}
use native.Mathlib.Omega.{arith}
use Rattle.base.proofs.Refusals.{told, past, none_left}
use Rattle.layout.specs.Layout.{length_right, counts_right}
use Rattle.layout.proofs.Framed.{length-says, counts_say}
use Rattle.arrays.proofs.Answers.{answer-refused, answer-accepted}
use Rattle.std.proofs.lemmas.Bool.{not_from_false, not_from_true}
use Rattle.arrays.proofs.header.Goals as goal

pub returns-then-not-length_right : goal.returns-then-not-length_right
returns-then-not-length_right c = answer-refused c.args.file.now (told (ap not c.length_right.ensures) 1 _ (not_from_false _ c.if-not-length_right.true))

pub counts_right-requires : goal.counts_right-requires
counts_right-requires c = (length-says _ (let it : length_right c.args.file.now ≡ true = sym c.length_right.ensures ∙ c.if-not-length_right.false in it)).least

pub returns-then-not-counts_right : goal.returns-then-not-counts_right
returns-then-not-counts_right c = answer-refused c.args.file.now
    (past (ap not c.length_right.ensures) 1 _ (not_from_true _ c.if-not-length_right.false)
    (told (ap not c.counts_right.ensures) 2 _ (not_from_false _ c.if-not-counts_right.true)))

pub layout_right-requires : goal.layout_right-requires
layout_right-requires c = let k = counts_say _ (let it : counts_right c.args.file.now ≡ true = sym c.counts_right.ensures ∙ c.if-not-counts_right.false in it) in ((length-says _ (let it : length_right c.args.file.now ≡ true = sym c.length_right.ensures ∙ c.if-not-length_right.false in it)).least, (k.vertex, k.tet))

pub returns-then-not-layout_right : goal.returns-then-not-layout_right
returns-then-not-layout_right c = answer-refused c.args.file.now
    (past (ap not c.length_right.ensures) 1 _ (not_from_true _ c.if-not-length_right.false)
    (past (ap not c.counts_right.ensures) 2 _ (not_from_true _ c.if-not-counts_right.false)
    (told (ap not c.layout_right.ensures) 3 _ (not_from_false _ c.if-not-layout_right.true))))

pub u32_at-requires : goal.u32_at-requires
u32_at-requires c = let l = length-says _ (let it : length_right c.args.file.now ≡ true = sym c.length_right.ensures ∙ c.if-not-length_right.false in it) in omega arith

pub u32_at-requires-2 : goal.u32_at-requires-2
u32_at-requires-2 c = let l = length-says _ (let it : length_right c.args.file.now ≡ true = sym c.length_right.ensures ∙ c.if-not-length_right.false in it) in omega arith

pub returns : goal.returns
returns c = answer-accepted c.args.file.now
    (past (ap not c.length_right.ensures) 1 _ (not_from_true _ c.if-not-length_right.false)
    (past (ap not c.counts_right.ensures) 2 _ (not_from_true _ c.if-not-counts_right.false)
    (past (ap not c.layout_right.ensures) 3 _ (not_from_true _ c.if-not-layout_right.false) none_left)))
    c.u32_at.ensures
    c.u32_at-2.ensures

-- `verdict::is_solid` meets its contract. Assumes nothing.
use mathlib.Core.Path.{sym, ◌∙◌, ap}
use lib.Dec.{eqb}
use Rattle.std.specs.Prelude.{is_ok}
use Rattle.base.proofs.Bools.{first-fails, second-fails, third_decides}
use Rattle.cells.specs.Cells.{is_filled, is_one_part}
use Rattle.space.specs.Arrays.{mesh_of}
use Rattle.verdict.specs.between.Judged.{is_solid}
use Rattle.verdict.proofs.Tables.{tuple_is, sound-is, numbers-is, last-is}
use Rattle.judging.proofs.Numbers.{found_as}
use Rattle.verdict.proofs.Solid.{last-two, none-fails, tells-no}
use borrow.Author.Rules.{rules}
use Rattle.std.proofs.lemmas.Bool.{not_from_false, not_from_true}
use Rattle.verdict.proofs.is_solid.Goals as goal

pub returns-then-not-is_tuple : goal.returns-then-not-is_tuple
unfolding is_solid
returns-then-not-is_tuple c = λ t w.
    tells-no (first-fails (c.is_tuple.ensures ∙ tuple_is c.args.mesh.now.coords.now c.args.mesh.now.index.labels.now c.args.mesh.now.parts.now c.args.c.now w) (not_from_false _ c.if-not-is_tuple.true) _ _)

pub returns-then-not-is_sound : goal.returns-then-not-is_sound
unfolding is_solid
returns-then-not-is_sound c = λ t w.
    tells-no
    (second-fails (c.is_tuple.ensures ∙ tuple_is c.args.mesh.now.coords.now c.args.mesh.now.index.labels.now c.args.mesh.now.parts.now c.args.c.now w) (not_from_true _ c.if-not-is_tuple.false)
    (c.is_sound.ensures ∙ sound-is c.args.mesh.now.coords.now c.args.mesh.now.index.labels.now c.args.mesh.now.parts.now c.args.c.now w) (not_from_false _ c.if-not-is_sound.true) _)

pub judge_found-requires : goal.judge_found-requires
judge_found-requires c = record { numbered = c.find-found.ensures; labels_len_bound = search rules; lettered = search rules }

pub returns-in-Ok : goal.returns-in-Ok
unfolding is_solid
returns-in-Ok c = λ t w.
    let m = mesh_of c.args.mesh.now.coords.now c.args.mesh.now.index.labels.now c.args.mesh.now.parts.now in
    record {
      is = sym (ap is_ok c.in-Ok.is) ∙
          third_decides (c.is_tuple.ensures ∙ tuple_is c.args.mesh.now.coords.now c.args.mesh.now.index.labels.now c.args.mesh.now.parts.now c.args.c.now w) (not_from_true _ c.if-not-is_tuple.false)
          (c.is_sound.ensures ∙ sound-is c.args.mesh.now.coords.now c.args.mesh.now.index.labels.now c.args.mesh.now.parts.now c.args.c.now w) (not_from_true _ c.if-not-is_sound.false)
          (none-fails c.judge_found.result ∙ ap (λ v. eqb v 0) (c.judge_found.ensures ∙ last-is c.args.mesh.now.coords.now c.args.mesh.now.index.labels.now c.args.mesh.now.parts.now c.args.c.now w) ∙ last-two (is_filled m t c.args.c.now) (is_one_part m t c.args.c.now));
      tets = found_as (numbers-is c.args.mesh.now.coords.now c.args.mesh.now.index.labels.now c.args.mesh.now.parts.now c.args.c.now w) c.find-found.ensures;
    }

pub returns-in-Err : goal.returns-in-Err
unfolding is_solid
returns-in-Err c = λ t w.
    let m = mesh_of c.args.mesh.now.coords.now c.args.mesh.now.index.labels.now c.args.mesh.now.parts.now in
    tells-no (
    sym (ap is_ok c.in-Err.is) ∙
    third_decides (c.is_tuple.ensures ∙ tuple_is c.args.mesh.now.coords.now c.args.mesh.now.index.labels.now c.args.mesh.now.parts.now c.args.c.now w) (not_from_true _ c.if-not-is_tuple.false)
    (c.is_sound.ensures ∙ sound-is c.args.mesh.now.coords.now c.args.mesh.now.index.labels.now c.args.mesh.now.parts.now c.args.c.now w) (not_from_true _ c.if-not-is_sound.false)
    (none-fails c.judge_found.result ∙ ap (λ v. eqb v 0) (c.judge_found.ensures ∙ last-is c.args.mesh.now.coords.now c.args.mesh.now.index.labels.now c.args.mesh.now.parts.now c.args.c.now w) ∙ last-two (is_filled m t c.args.c.now) (is_one_part m t c.args.c.now)))

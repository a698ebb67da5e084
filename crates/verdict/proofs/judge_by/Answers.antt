-- `verdict::judge_by` meets its contract. Assumes nothing.
use mathlib.Core.Path.{sym, ◌∙◌}
use native.Mathlib.Omega.{arith}
use Rattle.cells.specs.Cells.{first_failing}
use Rattle.verdict.proofs.Tables.{tuple_is, edges-is, faces-is, sound-is, last-is}
use Rattle.verdict.proofs.judge_by.Goals as goal

pub returns-then-not-is_tuple : goal.returns-then-not-is_tuple
unfolding first_failing
returns-then-not-is_tuple c = λ t w e.
    sym
    (rw (sym (c.is_tuple.ensures ∙ tuple_is c.args.mesh.now.coords.now c.args.mesh.now.index.labels.now c.args.mesh.now.parts.now c.args.c.now w) ∙ c.if-not-is_tuple.true))

pub returns-then-not-has_edges : goal.returns-then-not-has_edges
unfolding first_failing
returns-then-not-has_edges c = λ t w e.
    sym
    (rw (
      sym (c.is_tuple.ensures ∙ tuple_is c.args.mesh.now.coords.now c.args.mesh.now.index.labels.now c.args.mesh.now.parts.now c.args.c.now w) ∙ c.if-not-is_tuple.false,
      sym (c.has_edges.ensures ∙ edges-is c.args.mesh.now.coords.now c.args.mesh.now.index.labels.now c.args.mesh.now.parts.now c.args.c.now w e) ∙ c.if-not-has_edges.true,
    ))

pub returns-then-not-has_faces : goal.returns-then-not-has_faces
unfolding first_failing
returns-then-not-has_faces c = λ t w e.
    sym
    (rw (
      sym (c.is_tuple.ensures ∙ tuple_is c.args.mesh.now.coords.now c.args.mesh.now.index.labels.now c.args.mesh.now.parts.now c.args.c.now w) ∙ c.if-not-is_tuple.false,
      sym (c.has_edges.ensures ∙ edges-is c.args.mesh.now.coords.now c.args.mesh.now.index.labels.now c.args.mesh.now.parts.now c.args.c.now w e) ∙ c.if-not-has_edges.false,
      sym (c.has_faces.ensures ∙ faces-is c.args.mesh.now.coords.now c.args.mesh.now.index.labels.now c.args.mesh.now.parts.now c.args.c.now w) ∙ c.if-not-has_faces.true,
    ))

pub returns-then-not-is_sound : goal.returns-then-not-is_sound
unfolding first_failing
returns-then-not-is_sound c = λ t w e.
    sym
    (rw (
      sym (c.is_tuple.ensures ∙ tuple_is c.args.mesh.now.coords.now c.args.mesh.now.index.labels.now c.args.mesh.now.parts.now c.args.c.now w) ∙ c.if-not-is_tuple.false,
      sym (c.has_edges.ensures ∙ edges-is c.args.mesh.now.coords.now c.args.mesh.now.index.labels.now c.args.mesh.now.parts.now c.args.c.now w e) ∙ c.if-not-has_edges.false,
      sym (c.has_faces.ensures ∙ faces-is c.args.mesh.now.coords.now c.args.mesh.now.index.labels.now c.args.mesh.now.parts.now c.args.c.now w) ∙ c.if-not-has_faces.false,
      sym (c.is_sound.ensures ∙ sound-is c.args.mesh.now.coords.now c.args.mesh.now.index.labels.now c.args.mesh.now.parts.now c.args.c.now w) ∙ c.if-not-is_sound.true,
    ))

pub judge_found-requires : goal.judge_found-requires
judge_found-requires c = record { numbered = c.find-found.ensures; labels_len_bound = (omega (arith, c.args.mesh.now.arrays.indexed.labelled.few), c.args.mesh.now.arrays.parted); lettered = c.args.tables.now.lettered }

pub returns : goal.returns
unfolding first_failing
returns c = λ t w e.
    c.judge_found.ensures ∙ last-is c.args.mesh.now.coords.now c.args.mesh.now.index.labels.now c.args.mesh.now.parts.now c.args.c.now w ∙
    sym
    (rw (
      sym (c.is_tuple.ensures ∙ tuple_is c.args.mesh.now.coords.now c.args.mesh.now.index.labels.now c.args.mesh.now.parts.now c.args.c.now w) ∙ c.if-not-is_tuple.false,
      sym (c.has_edges.ensures ∙ edges-is c.args.mesh.now.coords.now c.args.mesh.now.index.labels.now c.args.mesh.now.parts.now c.args.c.now w e) ∙ c.if-not-has_edges.false,
      sym (c.has_faces.ensures ∙ faces-is c.args.mesh.now.coords.now c.args.mesh.now.index.labels.now c.args.mesh.now.parts.now c.args.c.now w) ∙ c.if-not-has_faces.false,
      sym (c.is_sound.ensures ∙ sound-is c.args.mesh.now.coords.now c.args.mesh.now.index.labels.now c.args.mesh.now.parts.now c.args.c.now w) ∙ c.if-not-is_sound.false,
    ))

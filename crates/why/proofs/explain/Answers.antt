-- `why::explain` meets its contract. Assumes nothing.
use mathlib.Core.Path.{sym, ◌∙◌}
use Rattle.refusals.proofs.Named.{handed_on}
use Rattle.arrays.proofs.Answers.{header_refused}
use Rattle.why.proofs.File.{file-refused, kind-refused, found-file}
use Rattle.why.proofs.explain.Goals as goal

pub returns-in_err-counts : goal.returns-in_err-counts
returns-in_err-counts c = let a = c.args in
    handed_on _ _ c.from_residual.ensures.1 ∙ file-refused a.file.now a.kind a.tuple.now (header_refused a.file.now (sym c.in_err-counts.ensures))

pub returns-in_err-mesh : goal.returns-in_err-mesh
returns-in_err-mesh c = let a = c.args in
    handed_on _ _ c.from_residual-in_err-mesh.ensures.1 ∙ file-refused a.file.now a.kind a.tuple.now (sym c.in_err-mesh.ensures.loaded)

pub returns-then-not-known : goal.returns-then-not-known
returns-then-not-known c = let a = c.args in
    kind-refused a.file.now a.kind a.tuple.now (sym c.in_ok-mesh.ensures.loaded.0) (sym c.is_kind-known.ensures ∙ c.if-not-known.true)

pub finding-requires : goal.finding-requires
finding-requires c = sym c.is_kind-known.ensures ∙ c.if-not-known.false

pub returns : goal.returns
returns c = let a = c.args in let l = c.in_ok-mesh.ensures.loaded in found-file a.file.now a.kind a.tuple.now (sym l.0) (sym c.is_kind-known.ensures ∙ c.if-not-known.false) l.1.0 c.finding.ensures

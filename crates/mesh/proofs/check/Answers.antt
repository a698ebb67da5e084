-- `mesh::check` meets its contract: the answer by the number that was told. Assumes nothing.
use mathlib.Core.Path.{sym, ◌∙◌}
use Rattle.refusals.proofs.Named.{handed_on}
use Rattle.arrays.proofs.Answers.{answer-refused, answer-accepted, header_refused, header-framed}
use Rattle.mesh.proofs.check.Goals as goal

pub returns-in_err-counts : goal.returns-in_err-counts
returns-in_err-counts c = let f = c.args.file.now in
    handed_on _ _ c.from_residual.ensures.1 ∙ answer-refused f (sym (header_refused f (sym c.in_err-counts.ensures)))

pub returns-in_err-load : goal.returns-in_err-load
returns-in_err-load c =
    handed_on _ _ c.from_residual-in_err-load.ensures.1 ∙ answer-refused c.args.file.now c.in_err-load.ensures.loaded

pub returns : goal.returns
returns c = let f = c.args.file.now in let h = header-framed f (sym c.in_ok-counts.ensures) in
    answer-accepted f c.in_ok-load.ensures.loaded.0 h.vertex h.tet

-- `listing::portion` meets its contract: the answer by that of the header, then by that of the arrays. Assumes nothing.
use mathlib.Core.Path.{sym, ◌∙◌}
use Rattle.arrays.proofs.Answers.{header_refused, header-framed}
use Rattle.records.proofs.Same.{refused_on}
use Rattle.listing.proofs.File.{refused-file, promised_file}
use Rattle.listing.proofs.portion.Goals as goal

pub returns-in_err-counts : goal.returns-in_err-counts
returns-in_err-counts c = let f = c.args.file.now in
    rw (refused_on _ _ c.from_residual.ensures.1) (refused-file f _ _ _ (header_refused f (sym c.in_err-counts.ensures)))

pub returns-in_err-mesh : goal.returns-in_err-mesh
returns-in_err-mesh c = let f = c.args.file.now in
    rw (refused_on _ _ c.from_residual-in_err-mesh.ensures.1) (refused-file f _ _ _ (sym c.in_err-mesh.ensures.loaded))

pub returns : goal.returns
returns c = let l = c.in_ok-mesh.ensures.loaded in let h = header-framed _ (sym c.in_ok-counts.ensures) in
    promised_file _ (sym l.0) l.1.0 (l.1.1.0 ∙ h.vertex) c.portion_of.ensures

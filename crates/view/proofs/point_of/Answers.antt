-- `view::point_of` answers what the file's mesh holds. Assumes nothing.
use mathlib.Core.Path.{sym, ap, ◌∙◌}
use borrow.Author.Tests.{lt-ltb}
use Rattle.std.specs.Prelude.{Some}
use Rattle.view.specs.View.{place_in}
use Rattle.view.proofs.Held.{point-held}
use Rattle.view.proofs.point_of.Goals as goal

pub returns-then-k-n : goal.returns-then-k-n
unfolding place_in
returns-then-k-n c = rw (sym c.counts_fit.ensures.fits ∙ c.if-counts_fit.true, lt-ltb _ _ c.if-k-n.true)
    (ap Some (point-held c.args.file.now c.args.n c.args.t c.args.v.0 c.if-k-n.true c.point_in.ensures))
